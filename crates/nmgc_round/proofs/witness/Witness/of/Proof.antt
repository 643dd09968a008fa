-- `of` makes a value of no bytes, whose ghost field is the witness of the `requires`.
use Rattle.nmgc_round.proofs.Vocabulary.{a_type, Val, vstruct, vcons, vnil, vptr, inst_fn, SProp, emp, Fml, ftrue, ‵, raw, ◌⊛◌, given, ◌$◌, ◌∵◌, !, qed, by, keep, split, fjoin, learn, use0, no_more, and_then, returns, enter, alloc_all, pass_all, free_all, look_at, get, sets, agg, tables, yes, owns, types_at, nothing, param, bounded, alive, stay_dropped, walk_of, Goes-dropped, fact, fact_i, shr_vals, shr_Tells, RefOf, named, dcons, dnil, makes_shadow, proved, ended, clauses, #self}
use Rattle.atomic_table.proofs.{Names.[], Names.◌∷◌, Names.refl, Names.drop, Names.RattleType, Names.plain, Names.Stays, Walks.leaves}
use Rattle.nmgc_round.specs.contracts.witness.Witness as chosen
use Rattle.nmgc_round.proofs.witness.Witness.of.Statement.{statement}
use Rattle.nmgc_round.proofs.witness.Witness.of.Code as code

abbrev token_val : Val
token_val = vstruct (vcons (vstruct vnil) vnil)

pub of_spec : {M : Type 1} → statement M
of_spec 𝓤 𝓛 𝓜 𝓡 wired T I Q LT LI LQ G D met =
    let H = 𝓛.H in let 𝓣 = tables 𝓤 H 𝓜 𝓡 𝓡.env in let R : RattleType = param 0 T in let X : RattleType = param 1 I in let En = ended T I Q G D in
    let c = clauses T I Q G D 𝓛 𝓜.mem 𝓡.returns in
    let inst = bounded (a_type ∷ a_type ∷ a_type ∷ []) (T, (I, (Q, tt))) (dcons D dnil) in let fn = inst_fn inst code.function in
    let C : RattleType = chosen.the_row R in
    let about = RefOf (0 ∷ []) tt (plain (λ _. X)) (λ _. tt) in
    let hs : Stays En.signature.params En.kept = (stay_dropped about yes, tt) in
    proved 𝓛 En hs c 𝓜 𝓡 (Goes-dropped 𝓛 4 about yes (λ κs x f. refl), tt) (#self inst) fn (code.unfolded 𝓤 H 𝓜 𝓡 wired (T, (I, (Q, tt))) D)
    (λ κs. (shr_vals, tt)) (λ κs. (shr_Tells (named 0) κs.0 X, tt)) (λ κs qs bounds a gh are.
    let p : Val = vptr a.0.ref_ptr.0 a.0.ref_ptr.1 in
    let y : (walk_of 𝓛 En hs c).Ghost = ((κs, qs, bounds, a, (p ∷ [], tt)), gh) in let Post : Val → SProp 𝓤 = (walk_of 𝓛 En hs c).post y in
    qed 𝓛 ((raw (alive 𝓛 En.signature κs qs) ⊛ ‵ (owns (types_at En.signature.params κs) a y.0.4)) ∷ raw (fact 𝓤 _) ∷ raw (fact 𝓤 _) ∷
    raw (fact 𝓤 _) ∷ given ((x : T.Denot) × G.wanted a.0.now x) (‵ ftrue) ∷ []) ∵
    keep ! (4 ∷ 0 ∷ []) $ learn ! (λ asked. let r : C.Denot = record { marker = record {}; value = asked.0 } in
    let Known : Type 0 = G.wanted a.0.now r.value in let O : Fml = C.own_val r (token_val ∷ []) in
    drop ! $ split ! $ keep ! (0 ∷ []) $
    use0 𝓛 (‵ O) (makes_shadow 𝓛 O ((λ vss. (tt, ((λ uss. (tt, tt)), tt))), tt) (((vstruct vnil ∷ [], tt), (refl, ((tt, (refl, tt)), tt))), tt)) $
    enter ! 𝓣.C 𝓣.Λ fn (p ∷ []) Post $ alloc_all ! (λ l. pass_all ! refl ((tt, tt), tt) $
    sets ! (agg ! (no_more !)) refl (tt, tt) $ sets ! (agg ! (and_then ! (get ! refl) (no_more !))) refl (tt, (tt, tt)) $
    use0 𝓛 (raw (fact 𝓤 Known)) (fact_i 𝓤 Known (emp 𝓤) asked.1) $ nothing ! $ nothing ! $ fjoin ! $
    returns ! (look_at ! 0 refl) $ free_all ! refl $ keep ! (3 ∷ 0 ∷ 2 ∷ 1 ∷ []) $ by ! (leaves 𝓛 En hs c y token_val r (tt, tt) (tt, tt)))))
