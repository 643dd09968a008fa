use Rattle.nmgc_heap_tests.proofs.{Vocabulary.◌+◌, Vocabulary.◌*◌, Vocabulary.ℕ, Vocabulary.refl, Vocabulary.sym, Vocabulary.subst, Vocabulary.nursery_place, Vocabulary.Seen, Vocabulary.blank, Vocabulary.seen, Vocabulary.Mutates, Vocabulary.CanLoad, Vocabulary.CanSwap, Vocabulary.CanStore, Vocabulary.CanBear, Vocabulary.CanFix, Vocabulary.CanTake, Vocabulary.Yield, SharedSlots.mutates, SharedSlots.makes, SharedSlots.shares, SharedSlots.reads, SharedSlots.after_header, SharedSlots.after_name, SharedSlots.after_field, SharedSlots.after_birth, SharedSlots.after_swap, SharedSlots.after_load, SharedSlots.header_fixed, SharedSlots.name_unborn, SharedSlots.field_unborn, SharedSlots.can_bear, SharedSlots.can_swap, SharedSlots.can_load, SharedSlots.can_yield, SharedSlots.seen_header, SharedSlots.seen_name, SharedSlots.seen_field, SharedSlots.seen_birth, SharedSlots.seen_swap, SharedSlots.seen_load, SharedSlots.has_part, SharedSlots.seen_last}
use Rattle.nmgc_heap_tests.proofs.of_round.work.Goals as goal

pub load_fixed-requires-clause-ready : goal.load_fixed-requires-clause-ready
load_fixed-requires-clause-ready c =
    let layout = c.args.layout in
    let m : ℕ = c.args.number in
    subst (λ (v : Seen). Mutates (λ o p. CanFix o p 1 0) v) (sym c.requires.seat.1) (
      blank m,
      mutates layout (blank m),
      header_fixed layout c.requires.layout.0 m c.requires.layout.1 (nursery_place layout m) refl (blank m),
    )

pub returns-then-load_fixed-ne32771 : goal.returns-then-load_fixed-ne32771
returns-then-load_fixed-ne32771 c =
    let layout = c.args.layout in
    let m : ℕ = c.args.number in
    let h : ℕ = c.load_fixed.result in
    let k = c.load_fixed.ensures.view in (
      k.0,
      has_part layout m 0 (after_header layout m 0 h) refl (seen c.load_fixed.new.seat)
          (seen_header layout m 0 h (seen c.args.seat.now) (seen c.load_fixed.new.seat) c.requires.seat.1 k.2),
    )

pub store_unborn-requires-clause-ready : goal.store_unborn-requires-clause-ready
store_unborn-requires-clause-ready c =
    let layout = c.args.layout in
    let is = c.requires.layout.0 in
    let m : ℕ = c.args.number in
    let mine = c.requires.layout.1 in
    let base : ℕ = c.nursery_base-base.result in
    let here = c.nursery_base-base.ensures in
    let h : ℕ = c.load_fixed.result in
    let e1 = seen_header layout m base h (seen c.args.seat.now) (seen c.load_fixed.new.seat) c.requires.seat.1 c.load_fixed.ensures.view.2 in
    subst (λ (v : Seen). Mutates (λ o p. CanStore o p (base + 1)) v) (sym e1) (
      after_header layout m base h,
      mutates layout (after_header layout m base h),
      name_unborn layout is m mine base here h,
    )

pub store_unborn-requires-2-clause-ready : goal.store_unborn-requires-2-clause-ready
store_unborn-requires-2-clause-ready c =
    let layout = c.args.layout in
    let is = c.requires.layout.0 in
    let m : ℕ = c.args.number in
    let mine = c.requires.layout.1 in
    let base : ℕ = c.nursery_base-base.result in
    let here = c.nursery_base-base.ensures in
    let h : ℕ = c.load_fixed.result in
    let e1 = seen_header layout m base h (seen c.args.seat.now) (seen c.load_fixed.new.seat) c.requires.seat.1 c.load_fixed.ensures.view.2 in
    let n : ℕ = c.encode_name-name.result in
    let e2 = seen_name layout m base h n (seen c.load_fixed.new.seat) (seen c.store_unborn.new.seat) e1 c.store_unborn.ensures.2 in
    subst (λ (v : Seen). Mutates (λ o p. CanStore o p (base + 2)) v) (sym e2) (
      after_name layout m base h n,
      mutates layout (after_name layout m base h n),
      field_unborn layout is m mine base here h n,
    )

pub give_birth-requires-clause-ready : goal.give_birth-requires-clause-ready
give_birth-requires-clause-ready c =
    let layout = c.args.layout in
    let is = c.requires.layout.0 in
    let m : ℕ = c.args.number in
    let mine = c.requires.layout.1 in
    let base : ℕ = c.nursery_base-base.result in
    let here = c.nursery_base-base.ensures in
    let h : ℕ = c.load_fixed.result in
    let e1 = seen_header layout m base h (seen c.args.seat.now) (seen c.load_fixed.new.seat) c.requires.seat.1 c.load_fixed.ensures.view.2 in
    let n : ℕ = c.encode_name-name.result in
    let e2 = seen_name layout m base h n (seen c.load_fixed.new.seat) (seen c.store_unborn.new.seat) e1 c.store_unborn.ensures.2 in
    let e3 = seen_field layout m base h n (seen c.store_unborn.new.seat) (seen c.store_unborn-2.new.seat) e2 c.store_unborn-2.ensures.2 in
    subst (λ (v : Seen). Mutates (λ o p. CanBear o p base 2050 makes) v) (sym e3) (
      after_field layout m base h n,
      mutates layout (after_field layout m base h n),
      can_bear layout is m mine base here h n c.encode_name-name.ensures,
    )

pub swap_field-before-requires-clause-ready : goal.swap_field-before-requires-clause-ready
swap_field-before-requires-clause-ready c =
    let layout = c.args.layout in
    let is = c.requires.layout.0 in
    let m : ℕ = c.args.number in
    let mine = c.requires.layout.1 in
    let base : ℕ = c.nursery_base-base.result in
    let here = c.nursery_base-base.ensures in
    let h : ℕ = c.load_fixed.result in
    let e1 = seen_header layout m base h (seen c.args.seat.now) (seen c.load_fixed.new.seat) c.requires.seat.1 c.load_fixed.ensures.view.2 in
    let n : ℕ = c.encode_name-name.result in
    let e2 = seen_name layout m base h n (seen c.load_fixed.new.seat) (seen c.store_unborn.new.seat) e1 c.store_unborn.ensures.2 in
    let e3 = seen_field layout m base h n (seen c.store_unborn.new.seat) (seen c.store_unborn-2.new.seat) e2 c.store_unborn-2.ensures.2 in
    let e4 = seen_birth layout m base h n (seen c.store_unborn-2.new.seat) (seen c.give_birth.new.seat) e3 c.give_birth.ensures.2 in
    let array = c.if-load_fixed-ne32771.false in
    subst (λ (v : Seen). Mutates (λ o p. CanSwap o p 1 m (2 * base) (shares m)) v) (sym e4) (
      after_birth layout m base h n,
      mutates layout (after_birth layout m base h n),
      can_swap layout is m mine base here h n array c.requires.few,
    )

pub load_field-after-requires-clause-ready : goal.load_field-after-requires-clause-ready
load_field-after-requires-clause-ready c =
    let layout = c.args.layout in
    let is = c.requires.layout.0 in
    let m : ℕ = c.args.number in
    let mine = c.requires.layout.1 in
    let base : ℕ = c.nursery_base-base.result in
    let here = c.nursery_base-base.ensures in
    let h : ℕ = c.load_fixed.result in
    let e1 = seen_header layout m base h (seen c.args.seat.now) (seen c.load_fixed.new.seat) c.requires.seat.1 c.load_fixed.ensures.view.2 in
    let n : ℕ = c.encode_name-name.result in
    let e2 = seen_name layout m base h n (seen c.load_fixed.new.seat) (seen c.store_unborn.new.seat) e1 c.store_unborn.ensures.2 in
    let e3 = seen_field layout m base h n (seen c.store_unborn.new.seat) (seen c.store_unborn-2.new.seat) e2 c.store_unborn-2.ensures.2 in
    let e4 = seen_birth layout m base h n (seen c.store_unborn-2.new.seat) (seen c.give_birth.new.seat) e3 c.give_birth.ensures.2 in
    let e5 = seen_swap layout m base h n c.swap_field-before.result (seen c.give_birth.new.seat) (seen c.swap_field-before.new.seat) e4
    c.swap_field-before.ensures.view.2 in
    let array = c.if-load_fixed-ne32771.false in
    subst (λ (v : Seen). Mutates (λ o p. CanLoad o p 1 m (reads m)) v) (sym e5) (
      after_swap layout m base h n c.swap_field-before.result,
      mutates layout (after_swap layout m base h n c.swap_field-before.result),
      can_load layout is m mine base here h n array c.requires.few c.swap_field-before.result,
    )

pub load_fixed-requires-2-clause-ready : goal.load_fixed-requires-2-clause-ready
load_fixed-requires-2-clause-ready c =
    let layout = c.args.layout in
    let is = c.requires.layout.0 in
    let m : ℕ = c.args.number in
    let mine = c.requires.layout.1 in
    let base : ℕ = c.nursery_base-base.result in
    let here = c.nursery_base-base.ensures in
    let h : ℕ = c.load_fixed.result in
    let e1 = seen_header layout m base h (seen c.args.seat.now) (seen c.load_fixed.new.seat) c.requires.seat.1 c.load_fixed.ensures.view.2 in
    let n : ℕ = c.encode_name-name.result in
    let e2 = seen_name layout m base h n (seen c.load_fixed.new.seat) (seen c.store_unborn.new.seat) e1 c.store_unborn.ensures.2 in
    let e3 = seen_field layout m base h n (seen c.store_unborn.new.seat) (seen c.store_unborn-2.new.seat) e2 c.store_unborn-2.ensures.2 in
    let e4 = seen_birth layout m base h n (seen c.store_unborn-2.new.seat) (seen c.give_birth.new.seat) e3 c.give_birth.ensures.2 in
    let e5 = seen_swap layout m base h n c.swap_field-before.result (seen c.give_birth.new.seat) (seen c.swap_field-before.new.seat) e4
    c.swap_field-before.ensures.view.2 in
    let x : ℕ = c.load_field-after.result in
    let e6 = seen_load layout m base h n c.swap_field-before.result x (seen c.swap_field-before.new.seat) (seen c.load_field-after.new.seat) e5
    c.load_field-after.ensures.view.2 in
    let array = c.if-load_fixed-ne32771.false in
    subst (λ (v : Seen). Mutates (λ o p. CanTake o p 1 0 Yield) v) (sym e6) (
      after_load layout m base h n c.swap_field-before.result x,
      mutates layout (after_load layout m base h n c.swap_field-before.result x),
      can_yield layout is m mine base here h n array c.requires.few c.swap_field-before.result x,
    )

pub returns : goal.returns
returns c =
    let layout = c.args.layout in
    let is = c.requires.layout.0 in
    let m : ℕ = c.args.number in
    let mine = c.requires.layout.1 in
    let base : ℕ = c.nursery_base-base.result in
    let here = c.nursery_base-base.ensures in
    let h : ℕ = c.load_fixed.result in
    let e1 = seen_header layout m base h (seen c.args.seat.now) (seen c.load_fixed.new.seat) c.requires.seat.1 c.load_fixed.ensures.view.2 in
    let n : ℕ = c.encode_name-name.result in
    let e2 = seen_name layout m base h n (seen c.load_fixed.new.seat) (seen c.store_unborn.new.seat) e1 c.store_unborn.ensures.2 in
    let e3 = seen_field layout m base h n (seen c.store_unborn.new.seat) (seen c.store_unborn-2.new.seat) e2 c.store_unborn-2.ensures.2 in
    let e4 = seen_birth layout m base h n (seen c.store_unborn-2.new.seat) (seen c.give_birth.new.seat) e3 c.give_birth.ensures.2 in
    let e5 = seen_swap layout m base h n c.swap_field-before.result (seen c.give_birth.new.seat) (seen c.swap_field-before.new.seat) e4
    c.swap_field-before.ensures.view.2 in
    let x : ℕ = c.load_field-after.result in
    let e6 = seen_load layout m base h n c.swap_field-before.result x (seen c.swap_field-before.new.seat) (seen c.load_field-after.new.seat) e5
    c.load_field-after.ensures.view.2 in
    let k = c.load_fixed-2.ensures.view in (
      k.0,
      seen_last layout m base h n c.swap_field-before.result x c.load_fixed-2.result (seen c.load_field-after.new.seat)
          (seen c.load_fixed-2.new.seat) e6 k.2,
    )
