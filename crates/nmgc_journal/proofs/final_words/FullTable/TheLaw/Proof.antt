-- A `&` to a full table is a `&` to its closed table, and nothing more. Assumes `Logic`.
use mathlib.Core.Path.{refl}
use denote.Builtin.{unit}
use denote.Param.Laws.{Laws, of_field}
use denote.Param.Shared.{copy_shared}
use denote.SharingLaws.{nothing_shr_laws}
use denote.Struct.Field.{unit-field}
use denote.Struct.Laws.{unit-laws, unit-copy}
use denote.Struct.Lending.{of_Lends, Lends-nothing}
use Rattle.std.specs.contracts.alloc.Global as Heap
use Rattle.std.specs.contracts.impls.GlobalAllocator.TheImpl.{ghosts}
use Rattle.std.proofs.alloc.Global.TheLaws as heap
use Rattle.atomic_table.specs.contracts.owned.Closed as Closed
use Rattle.atomic_table.proofs.owned.Closed.TheLaws as closed
use Rattle.nmgc_journal.specs.contracts.final_words.FullTable.TheInside as C
use Rattle.nmgc_journal.proofs.final_words.FullTable.TheLaw.Statement.{statement}

pub shares : statement
shares =
    let none : Laws unit = of_field unit-field unit-laws refl (copy_shared unit-field unit-copy) in
    of_Lends C.struct (C.the_codes (Closed.the_row unit Heap.the_row ghosts).coded Heap.the_row.coded) C.the_heap C.the_lent (λ d p. nothing_shr_laws)
    (closed.the_field_shared unit Heap.the_row ghosts none heap.the_row_laws, tt) (λ M 𝓤 𝓛 d p. Lends-nothing 𝓛 (C.the_heap d) C.the_row.lives)
