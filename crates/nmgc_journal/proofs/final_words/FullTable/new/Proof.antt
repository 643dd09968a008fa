-- `new` puts the closed table into the struct. Assumes `Logic`.
use mathlib.Core.Path.{◌≡◌, refl}
use mathlib.Core.Bool.{Bool, true, false, ◌&&◌}
use mathlib.Core.List.{List, [], ◌∷◌, ◌++◌}
use lib.Dec.{T}
use mir.Syntax.{Ty, Fn}
use mir.Val.{Val, vstruct, vcons, vnil, of_list, has_ty, WT}
use base.Logic.{SProp, emp}
use base.Fml.{ftrue, fsep, feq}
use prog.Wp.{WpFn}
use contract.Monad.{fact, fact_i}
use contract.Running.{tables}
use types.Kit.{‵, raw, ◌⊛◌, prop, ◌$◌, ◌∵◌, !, qed, by, move, use0, split, rewrite, regoal, fjoin, fpack, feq_i}
use types.Part.{agg}
use types.Run.{of_opd, no_more, and_then, returns, enter}
use types.ByLocal.{alloc_all, pass_all, free_all, look_at, get, sets}
use denote.Builtin.{unit}
use denote.Exit.{yes, rest}
use denote.Laws.{Typed}
use denote.RattleType.{RattleType, owns, Valss}
use denote.Signature.{types_at, plain}
use denote.Steps.{nothing, heard}
use denote.Param.{layout}
use denote.Param.Laws.{Laws, of_field}
use denote.Param.Shared.{copy_shared}
use denote.Struct.Field.{unit-field}
use denote.Struct.Laws.{unit-laws, unit-copy}
use denote.Triple.Entry.{alive}
use denote.Triple.Walked.{Stays, stay_dropped, walk_of}
use Rattle.std.proofs.alloc.Calls.{Goes-blank}
use Rattle.std.specs.Slots.{slots_items, slots_len, IsFull}
use Rattle.std.specs.contracts.alloc.Global as Heap
use Rattle.std.specs.contracts.impls.GlobalAllocator.TheImpl.{ghosts}
use Rattle.std.proofs.alloc.Global.TheLaws as heap
use Rattle.atomic_table.specs.contracts.owned.Closed as Closed
use Rattle.atomic_table.proofs.owned.Closed.TheLaws as closed
use Rattle.atomic_table.proofs.Walks.{proved_at, leaves}
use Rattle.nmgc_journal.specs.contracts.final_words.FullTable as Full
use Rattle.nmgc_journal.specs.declared.final_words.FullTable.TheView.{view, invariant}
use Rattle.nmgc_journal.specs.contracts.final_words.FullTable.TheInside as Inside
use Rattle.nmgc_journal.specs.contracts.final_words.FullTable.new.{ended, clauses}
use Rattle.nmgc_journal.specs.contracts.final_words.FullTable.new.Key.{name as #self}
use Rattle.nmgc_journal.proofs.final_words.FullTable.new.Statement.{statement}
use Rattle.nmgc_journal.proofs.final_words.FullTable.new.Code as code

abbrev Good : Ty → Val → Type 0
Good τ v = T (has_ty τ v) × WT v

one : (τ : Ty) (vs : List Val) → Typed (τ ∷ []) vs → (v : Val) × (vs ≡ v ∷ []) × Good τ v
one τ [] t = absurd t
one τ (v ∷ []) t = (v, refl, t.0)
one τ (v ∷ w ∷ vs) t = absurd t.1

and_true : (b : Bool) → T b → T (b && true)
and_true true t = tt
and_true false t = absurd t

pub new_spec : {M : Type 1} → statement M
new_spec 𝓤 𝓛 𝓜 𝓡 wired =
    let H = 𝓛.H in
    let 𝓣 = tables 𝓤 H 𝓜 𝓡 𝓡.env in
    let En = ended in
    let c = clauses 𝓛 𝓜.mem 𝓡.returns in
    let fn : Fn = code.function in
    let Table : RattleType = Closed.the_row unit Heap.the_row ghosts in
    let none : Laws unit = of_field unit-field unit-laws refl (copy_shared unit-field unit-copy) in
    let hs : Stays En.signature.params En.kept = (stay_dropped (plain (λ _. Table)) yes, tt) in
    proved_at 𝓛 En hs c 𝓜 𝓡 (Goes-blank 𝓛 0 (plain (λ _. Table)) yes (λ κs x f. tt), tt) #self fn (code.unfolded 𝓤 H 𝓜 𝓡 wired) (λ z are.
    let Post : Val → SProp 𝓤 = (walk_of 𝓛 En hs c).post z in
    let x : Table.Denot = z.0.3.0 in
    let got = one (layout Table) z.0.4.0 (((closed.the_row_laws unit Heap.the_row ghosts none heap.the_row_laws).lawful 𝓛).typed x z.0.4.0 are.0) in
    let w : Val = got.0 in
    let good : Good (layout Table) w = got.2 in
    let Whole : Type 0 = IsFull x.words in
    let Bare : Type 0 = slots_len x.slots ≡ 0 in
    qed 𝓛 ((raw (alive 𝓛 En.signature z.0.0 z.0.1) ⊛ ‵ (owns (types_at En.signature.params z.0.0) z.0.3 z.0.4)) ∷ (raw (fact 𝓤 Whole) ⊛ raw (fact 𝓤 Bare)) ∷ []) ∵
    move ! (1 ∷ []) $ split ! $ heard ! Whole (λ full. heard ! Bare (λ bare. split ! $ move ! (1 ∷ 0 ∷ []) $
    rewrite ! 0 (λ (us : List Val). ‵ (owns (Table ∷ []) (x, tt) (us, tt))) got.1 refl $
    feq_i ! (List Val) (vstruct (vcons w vnil) ∷ []) (vstruct (vcons w vnil) ∷ []) refl $ fjoin ! $
    fpack ! (Valss (Table ∷ [])) (λ vss. fsep (feq (List Val) (vstruct (vcons w vnil) ∷ []) (vstruct (of_list (vss.0 ++ [])) ∷ [])) (owns (Table ∷ []) (x, tt) vss)) (w ∷ [], tt) $
    nothing ! $ move ! (1 ∷ 0 ∷ []) $ fjoin ! $ nothing ! $ move ! (1 ∷ 0 ∷ []) $ fjoin ! $
    let inside : Inside.the_row.Denot = record { closed = x; full = full; bare = bare } in
    let r : Full.the_row.Denot = slots_items x.words in
    let Seen : Type 0 = (a : Inside.the_row.Denot) × ((view a ≡ r) × invariant a) in
    fpack ! Seen (λ h. fsep (Inside.the_row.own_val h.0 (vstruct (vcons w vnil) ∷ [])) ftrue) (inside, (refl, tt)) $
    regoal ! (λ (us : List Val). prop (WpFn 𝓤 H 𝓣.C 𝓣.Λ fn us Post)) (λ i. got.1 i ++ []) refl $
    enter ! 𝓣.C 𝓣.Λ fn (w ∷ []) Post $ alloc_all ! (λ l. pass_all ! refl (good, tt) $
    sets ! (of_opd ! (get ! refl)) refl good $ sets ! (agg ! (and_then ! (get ! refl) (no_more !))) refl (and_true _ good.0, (good.1, tt)) $
    use0 𝓛 (raw (fact 𝓤 (r ≡ slots_items x.words))) (fact_i 𝓤 (r ≡ slots_items x.words) (emp 𝓤) refl) $ nothing ! $ nothing ! $ fjoin ! $
    returns ! (look_at ! 0 refl) $ free_all ! refl $ move ! (3 ∷ 0 ∷ 2 ∷ 1 ∷ []) $
    by ! (leaves 𝓛 En hs c z (vstruct (vcons w vnil)) r (rest (Table.exit yes) x, tt) (tt, tt))))))
