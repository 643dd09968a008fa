-- The tracked names after a round; new names among them are promoted.
use Rattle.std.specs.Prelude.{◌≡◌, ◌⊎◌, ◌∷◌}
use Rattle.nmgc_run_laws.specs.laws.Vocabulary.{List, [], refl, sym, subst, Option, Some, None, inl, inr, IsSome, Contains, Name, Node, World, IsWorld, node_of, Row, replayed, IsReached, RefersTo, field, contains_cases, nothing_in, IsWide, HoldsOnly, CanReplay, absent, some_of, rows_hold, from_there, world_holds, old_weaks_stay, IsTracked, tracked_holds, held_tracked, past_tracked, tracked_more, IsYoung, IsFirstPromoted}
use Rattle.nmgc_world_spec.specs.Reach.{start}

-- the name is tracked if the world has it
abbrev pub IsTrackedIfOld : World → List World → Name → Type 0
IsTrackedIfOld w earlier n = IsSome (node_of w n) → IsTracked w earlier n

-- after rows a tracked name that isn't new was tracked before
pub tracked_before : (w : World) (earlier : List World) (rows : List Row) → IsWorld w → CanReplay w rows → (n : Name) →
    IsTracked (replayed w rows) earlier n → IsTrackedIfOld w earlier n
tracked_before w earlier rows is can n t = held_tracked (replayed w rows) earlier (IsTrackedIfOld w earlier) (λ e k c i there.
    past_tracked w earlier e k c i) (rows_hold (IsTrackedIfOld w earlier) w rows is (λ k gone there. absurd (gone there)) begun can) n t
  where
    begun : HoldsOnly (IsTrackedIfOld w earlier) w
    begun =
        let h = tracked_holds w earlier in record {
          roots = λ k root there. h.roots k root;
          fields = λ from k p refers there. h.fields from k (p (from_there w from k refers)) refers;
          weaks = λ weak k parts alive of there. h.weaks weak k parts alive of;
        }

-- without earlier worlds fewer names are tracked
pub tracked_fewer : (w : World) (earlier : List World) (n : Name) → IsTracked w [] n → IsTracked w earlier n
tracked_fewer w earlier n t = tracked_more w [] earlier (λ e none. absurd (nothing_in e none)) n t

-- a world as its own earlier world tracks no more
pub tracked_itself : (w : World) (n : Name) → IsTracked w (w ∷ []) n → IsTracked w [] n
tracked_itself w n t = tracked_more w (w ∷ []) [] (λ e c. c) n t

-- every tracked name is a name of the world, if the world has the wide reach of the earlier worlds
pub tracked_known : (w : World) (earlier : List World) → IsWorld w →
    ((e : World) → Contains earlier e → (n : Name) → IsWide e n → IsSome (node_of w n)) → (n : Name) → IsTracked w earlier n → IsSome (node_of w n)
tracked_known w earlier is known n t = held_tracked w earlier (λ k. IsSome (node_of w k)) (λ e k c i. known e c k i) (world_holds w is) n t

-- a new name that is tracked is promoted
module _ (w : World) (rows : List Row) (is : IsWorld w) (can : CanReplay w rows) where
  abbrev new : World
  new = replayed w rows

  young_not_old : (n : Name) → IsYoung w new n → IsSome (node_of w n) → ⊥
  young_not_old n y there = absent (node_of w n) y.0 there

  old_or_new : (n : Name) → IsSome (node_of w n) ⊎ (node_of w n ≡ None)
  old_or_new n = by_node (node_of w n) refl
    where
      by_node : (o : Option Node) → node_of w n ≡ o → IsSome (node_of w n) ⊎ (node_of w n ≡ None)
      by_node None e = inr e
      by_node (Some node) e = inl (some_of (node_of w n) node e)

  by_field : (from n : Name) → (IsYoung w new from → IsReached new (IsFirstPromoted w new) from) → RefersTo new from n → IsReached new (IsFirstPromoted w new) n
  by_field from n more refers = elim (old_or_new from) [
    | inl old ↦ start n (inr (inl (from, old, refers)))
    | inr fresh ↦ field from n (more (fresh, from_there new from n refers)) refers
  ]

  wide_young : (n : Name) → IsWide new n → IsYoung w new n → IsReached new (IsFirstPromoted w new) n
  wide_young n (start _ (inl root)) y = start n (inl root)
  wide_young n (start _ (inr (weak, parts, alive, of))) y = elim (old_or_new weak) [
    | inl old ↦ absurd (young_not_old n y ((world_holds w is).weaks weak n parts (old_weaks_stay w rows is can weak parts old alive) of))
    | inr fresh ↦ start n (inr (inr (weak, parts, (fresh, some_of (node_of new weak) _ alive), alive, of)))
  ]
  wide_young n (field from _ reached refers) y = by_field from n (wide_young from reached) refers

  pub tracked_young : (earlier : List World) → ((e : World) → Contains earlier e → (n : Name) → IsWide e n → IsSome (node_of w n)) → (n : Name) →
      IsTracked new earlier n → IsYoung w new n → IsReached new (IsFirstPromoted w new) n
  tracked_young earlier known n (start _ (e, held, wide)) y = elim (contains_cases new earlier e held) [
    | inl same ↦ wide_young n (subst (λ (x : World). IsWide x n) (sym same) wide) y
    | inr later ↦ absurd (young_not_old n y (known e later n wide))
  ]
  tracked_young earlier known n (field from _ reached refers) y = by_field from n (tracked_young earlier known from reached) refers
