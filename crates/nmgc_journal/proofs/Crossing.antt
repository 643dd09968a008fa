-- Threads may share a closed table without slots: nothing writes it, and its rights to free a block name no thread.
use Rattle.std.specs.Prelude.{Bool, true, false, List, [], ◌∷◌}
use Prim.Native.Nat.{◌+◌}
use mir.Syntax.{ty_ptr, ty_int, w64}
use mir.Raw.{raw}
use denote.Builtin.{unit, u64}
use denote.RattleType.{RattleType}
use denote.RawPtr.{Ptr, block_ptr, null_ptr, block_of, count_of, in_block, ◌+ₚ◌}
use base.Fml.{ftrue}
use base.Shift.{Keyless}
use denote.Param.Send.{IsSync, Common, sendable, cell_keyless, whole-keyless}
use Rattle.std.specs.Slots.{slots_ptr, slots_items, slots_filled}
use Rattle.std.specs.Slots.Ownership.{bytes_of, slots_lent}
use Rattle.std.specs.contracts.alloc.Global as Heap
use Rattle.std.specs.contracts.impls.GlobalAllocator.TheImpl.{ghosts}
use Rattle.std.proofs.Crossing as heap
use Rattle.atomic_table.specs.contracts.owned.Closed as Closed

placed : (p : Ptr) → Keyless (in_block p ftrue)
placed (block_ptr b o) = tt
placed null_ptr = tt

-- the content of a reference to slots is the same for every thread
lent_common : (R : RattleType) → IsSync R → (p : Ptr) (values : List R.Denot) (filled : List Bool) → Common (slots_lent R p values filled)
lent_common R y p [] filled κ = tt
lent_common R y p (x ∷ values) [] κ = tt
lent_common R y p (x ∷ values) (true ∷ filled) κ = ((placed p, y.shared x (block_of p) (count_of p) κ), lent_common R y (p +ₚ bytes_of R) values filled κ)
lent_common R y p (x ∷ values) (false ∷ filled) κ = (tt, lent_common R y (p +ₚ bytes_of R) values filled κ)

pub closed_sync : IsSync (Closed.the_row unit Heap.the_row ghosts)
closed_sync = record {
  shared = λ d b o κ. (
    (
      ((((λ vs. (tt, λ q. cell_keyless q (raw ty_ptr ∷ []) vs b (o + 0 + 0))), ((λ vs. ((tt, tt), λ q. cell_keyless q (raw (ty_int w64) ∷ []) vs b (o + 0 + 8))), tt)), λ q. tt), (tt, lent_common u64 (search sendable) (slots_ptr d.words) (slots_items d.words) (slots_filled d.words) κ)),
      (
        ((((λ vs. (tt, λ q. cell_keyless q (raw ty_ptr ∷ []) vs b (o + 16 + 0))), ((λ vs. ((tt, tt), λ q. cell_keyless q (raw (ty_int w64) ∷ []) vs b (o + 16 + 8))), tt)), λ q. tt), (tt, lent_common unit (search sendable) (slots_ptr d.slots) (slots_items d.slots) (slots_filled d.slots) κ)),
        (
          (λ q. whole-keyless _ _ (λ z vs. ((λ uss. (tt, (tt, ((tt, tt), ((λ wss. (tt, tt)), tt))))), heap.frees.frees _ _ _)) q _ b _),
          ((λ q. whole-keyless _ _ (λ z vs. ((λ uss. (tt, (tt, ((tt, tt), ((λ wss. (tt, tt)), tt))))), heap.frees.frees _ _ _)) q _ b _), (heap.sync.shared _ b _ κ, tt)),
        ),
      ),
    ),
    λ q. tt,
  );
}
