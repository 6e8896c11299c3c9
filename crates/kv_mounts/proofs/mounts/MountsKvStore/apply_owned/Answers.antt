use Rattle.std.proofs.Common.{◌≡◌, ◌<◌, length, get_or, set, true, false, ap, sym, subst, ◌∙◌, arith, List, Some, ℕ, ◌⊎◌}
use Rattle.std.specs.Prelude.{IfSome}
use Rattle.std.specs.List.{list_any}
use Rattle.std.proofs.lemmas.Result.{on_ok_weaker}
use Rattle.kv_face.specs.Store.{are_together, after, opened, OneMore, NoneFell}
use Rattle.kv_face.specs.declared.change.Change.{Change}
use Rattle.kv_mounts.specs.Parts.{Part, AreOneMounts, names_of, begins}
use Rattle.kv_mounts.specs.Union.{union_of, counts_of, prefixes_of, change_count_of, standing_of}
use Rattle.kv_mounts.proofs.UnionLaws.{after_changes}
use Rattle.kv_mounts.proofs.Kept.{Changes, any_names, few_at, AreMounts-set, union_of-set, prefixes_of-set, names_of-kept, standing_of-opened, standing_either, change_count_of-set, one_more, none_fell, err_weaker}
use Rattle.kv_mounts.proofs.Together.{one_mount_at, more_than_none}
use Rattle.kv_mounts.proofs.mounts.MountsKvStore.apply_owned.Goals as goal

pub unreachable-requires : goal.unreachable-requires
unreachable-requires g c =
    let found = c.place_of_first.ensures.none c.in_default.is in
    let first : Change = found.0 in
    let at : first ≡ get_or c.args.changes.items 0 first = found.1 ∙ ap (λ (cs : List Change). get_or cs 0 first) c.as_slice-2.ensures.value in
    let some : 0 < length c.args.changes.items = omega (arith, more_than_none _ (sym c.is_empty.ensures ∙ c.if-is_empty.false), c.args.changes.ok) in
    let none : list_any (λ (p : Part). begins p.name first.key) c.args.self.now ≡ false =
    ap (λ (ps : List Part). list_any (λ (p : Part). begins p.name first.key) ps) (sym (c.as_slice.ensures.value ∙ c.self.view_is)) ∙ found.2 in
    let taken : list_any (λ n. begins n (get_or c.args.changes.items 0 first).key) (names_of c.args.self.now) ≡ true = c.requires.keys 0 first some in
    let wrong : true ≡ false = sym taken ∙ ap (λ (r : Change). list_any (λ n. begins n r.key) (names_of c.args.self.now)) (sym at) ∙ any_names (λ n. begins n first.key) c.args.self.now ∙ none in
    cc wrong

pub apply-requires-clause-few : goal.apply-requires-clause-few
apply-requires-clause-few g c =
    let old = c.self.inside.list.items in
    let i = c.in-Some.place in
    let p = c.index_mut.result.now in
    let less : i < length old = omega (arith, c.in-Some.ensures.found.0, ap length c.as_slice.ensures.value) in
    few_at old i p c.self.invariant less c.index_mut.ensures.value

pub apply-requires-clause-one : goal.apply-requires-clause-one
apply-requires-clause-one g c =
    let old = c.self.inside.list.items in
    let i = c.in-Some.place in
    let p = c.index_mut.result.now in
    let less : i < length old = omega (arith, c.in-Some.ensures.found.0, ap length c.as_slice.ensures.value) in
    let found = c.in-Some.ensures.found.1 in
    let first : Change = found.0 in
    let at : first ≡ get_or c.args.changes.items 0 first = found.1 ∙ ap (λ (cs : List Change). get_or cs 0 first) c.as_slice-2.ensures.value in
    let begun : begins p.name first.key ≡ true =
    ap (λ (r : Part). begins r.name first.key) (c.index_mut.ensures.value ∙ ap (λ (ps : List Part). get_or ps i p) (sym c.as_slice.ensures.value)) ∙ found.2 p in
    let some : 0 < length c.args.changes.items = omega (arith, more_than_none _ (sym c.is_empty.ensures ∙ c.if-is_empty.false), c.args.changes.ok) in
    let one : AreOneMounts p c.args.changes.items =
    one_mount_at old i p first c.args.changes.items c.self.invariant less c.index_mut.ensures.value some at begun
    (ap (λ (ps : List Part). are_together (prefixes_of ps) c.args.changes.items 0) c.self.view_is ∙ c.requires.together) in
    one

pub invariant_of-self : goal.invariant_of-self
invariant_of-self g c =
    let old = c.self.inside.list.items in
    let i = c.in-Some.place in
    let p = c.index_mut.result.now in
    let less : i < length old = omega (arith, c.in-Some.ensures.found.0, ap length c.as_slice.ensures.value) in
    let q = c.apply.new.self in
    let kept = c.apply.ensures.kept in
    let changes : Changes old i p q = record { there = less; is = c.index_mut.ensures.value; name = ap (λ (r : Part). r.name) kept; names = ap (λ (r : Part). r.names) kept; prefixes = ap (λ (r : Part). r.prefixes) kept } in
    AreMounts-set old i p q changes c.self.invariant

pub returns-clause-done : goal.returns-clause-done
returns-clause-done g c =
    let old = c.self.inside.list.items in
    let i = c.in-Some.place in
    let p = c.index_mut.result.now in
    let less : i < length old = omega (arith, c.in-Some.ensures.found.0, ap length c.as_slice.ensures.value) in
    let q = c.apply.new.self in
    let kept = c.apply.ensures.kept in
    let changes : Changes old i p q = record { there = less; is = c.index_mut.ensures.value; name = ap (λ (r : Part). r.name) kept; names = ap (λ (r : Part). r.names) kept; prefixes = ap (λ (r : Part). r.prefixes) kept } in
    let found = c.in-Some.ensures.found.1 in
    let first : Change = found.0 in
    let at : first ≡ get_or c.args.changes.items 0 first = found.1 ∙ ap (λ (cs : List Change). get_or cs 0 first) c.as_slice-2.ensures.value in
    let begun : begins p.name first.key ≡ true =
    ap (λ (r : Part). begins r.name first.key) (c.index_mut.ensures.value ∙ ap (λ (ps : List Part). get_or ps i p) (sym c.as_slice.ensures.value)) ∙ found.2 p in
    let some : 0 < length c.args.changes.items = omega (arith, more_than_none _ (sym c.is_empty.ensures ∙ c.if-is_empty.false), c.args.changes.ok) in
    let one : AreOneMounts p c.args.changes.items =
    one_mount_at old i p first c.args.changes.items c.self.invariant less c.index_mut.ensures.value some at begun
    (ap (λ (ps : List Part). are_together (prefixes_of ps) c.args.changes.items 0) c.self.view_is ∙ c.requires.together) in
    on_ok_weaker c.apply.result
    (λ h. subst (λ (ps : List Part). IfSome (union_of ps) (λ m. union_of (set old i q) ≡ Some (after m c.args.changes.items))) c.self.view_is
    (after_changes old i p q c.args.changes.items c.self.invariant less c.index_mut.ensures.value changes.name one.below h))
    c.apply.ensures.done

pub returns-clause-err : goal.returns-clause-err
returns-clause-err g c =
    let old = c.self.inside.list.items in
    let i = c.in-Some.place in
    let p = c.index_mut.result.now in
    let less : i < length old = omega (arith, c.in-Some.ensures.found.0, ap length c.as_slice.ensures.value) in
    let q = c.apply.new.self in
    let kept = c.apply.ensures.kept in
    let changes : Changes old i p q = record { there = less; is = c.index_mut.ensures.value; name = ap (λ (r : Part). r.name) kept; names = ap (λ (r : Part). r.names) kept; prefixes = ap (λ (r : Part). r.prefixes) kept } in
    err_weaker c.apply.result (λ h. union_of-set old i p q changes h ∙ ap union_of c.self.view_is) c.apply.ensures.err

pub returns-clause-prefixes : goal.returns-clause-prefixes
returns-clause-prefixes g c =
    let old = c.self.inside.list.items in
    let i = c.in-Some.place in
    let p = c.index_mut.result.now in
    let less : i < length old = omega (arith, c.in-Some.ensures.found.0, ap length c.as_slice.ensures.value) in
    let q = c.apply.new.self in
    let kept = c.apply.ensures.kept in
    let changes : Changes old i p q = record { there = less; is = c.index_mut.ensures.value; name = ap (λ (r : Part). r.name) kept; names = ap (λ (r : Part). r.names) kept; prefixes = ap (λ (r : Part). r.prefixes) kept } in
    prefixes_of-set old i p q changes ∙ ap prefixes_of c.self.view_is

pub returns-clause-names : goal.returns-clause-names
returns-clause-names g c =
    let old = c.self.inside.list.items in
    let i = c.in-Some.place in
    let p = c.index_mut.result.now in
    let less : i < length old = omega (arith, c.in-Some.ensures.found.0, ap length c.as_slice.ensures.value) in
    let q = c.apply.new.self in
    let kept = c.apply.ensures.kept in
    let changes : Changes old i p q = record { there = less; is = c.index_mut.ensures.value; name = ap (λ (r : Part). r.name) kept; names = ap (λ (r : Part). r.names) kept; prefixes = ap (λ (r : Part). r.prefixes) kept } in
    ap Some (names_of-kept old i p q changes ∙ ap names_of c.self.view_is)

pub returns-clause-opens : goal.returns-clause-opens
returns-clause-opens g c =
    let old = c.self.inside.list.items in
    let i = c.in-Some.place in
    let p = c.index_mut.result.now in
    let less : i < length old = omega (arith, c.in-Some.ensures.found.0, ap length c.as_slice.ensures.value) in
    λ held some. standing_of-opened old i c.apply.new.self less (c.apply.ensures.opens held)

pub returns-clause-standing_memory : goal.returns-clause-standing_memory
returns-clause-standing_memory g c =
    let old = c.self.inside.list.items in
    let i = c.in-Some.place in
    let p = c.index_mut.result.now in
    let less : i < length old = omega (arith, c.in-Some.ensures.found.0, ap length c.as_slice.ensures.value) in
    let q = c.apply.new.self in
    let kept = c.apply.ensures.kept in
    let changes : Changes old i p q = record { there = less; is = c.index_mut.ensures.value; name = ap (λ (r : Part). r.name) kept; names = ap (λ (r : Part). r.names) kept; prefixes = ap (λ (r : Part). r.prefixes) kept } in
    λ e. subst (λ (ps : List Part). (standing_of (set old i q) ≡ standing_of ps) ⊎ (standing_of (set old i q) ≡ opened)) c.self.view_is (standing_either old i p q changes (c.apply.ensures.standing_memory e))

pub returns-clause-one_more : goal.returns-clause-one_more
returns-clause-one_more g c =
    let old = c.self.inside.list.items in
    let i = c.in-Some.place in
    let p = c.index_mut.result.now in
    let less : i < length old = omega (arith, c.in-Some.ensures.found.0, ap length c.as_slice.ensures.value) in
    let q = c.apply.new.self in
    let kept = c.apply.ensures.kept in
    let changes : Changes old i p q = record { there = less; is = c.index_mut.ensures.value; name = ap (λ (r : Part). r.name) kept; names = ap (λ (r : Part). r.names) kept; prefixes = ap (λ (r : Part). r.prefixes) kept } in
    on_ok_weaker c.apply.result (λ h some. subst (λ (ps : List Part). OneMore (change_count_of ps) (change_count_of (set old i q))) c.self.view_is (one_more old i p q changes h)) c.apply.ensures.one_more

pub returns-clause-count_err : goal.returns-clause-count_err
returns-clause-count_err g c =
    let old = c.self.inside.list.items in
    let i = c.in-Some.place in
    let p = c.index_mut.result.now in
    let less : i < length old = omega (arith, c.in-Some.ensures.found.0, ap length c.as_slice.ensures.value) in
    let q = c.apply.new.self in
    let kept = c.apply.ensures.kept in
    let changes : Changes old i p q = record { there = less; is = c.index_mut.ensures.value; name = ap (λ (r : Part). r.name) kept; names = ap (λ (r : Part). r.names) kept; prefixes = ap (λ (r : Part). r.prefixes) kept } in
    err_weaker c.apply.result (λ h. change_count_of-set old i p q changes h ∙ ap change_count_of c.self.view_is) c.apply.ensures.count_err

pub returns-clause-counts : goal.returns-clause-counts
returns-clause-counts g c =
    let old = c.self.inside.list.items in
    let i = c.in-Some.place in
    let p = c.index_mut.result.now in
    let less : i < length old = omega (arith, c.in-Some.ensures.found.0, ap length c.as_slice.ensures.value) in
    let q = c.apply.new.self in
    let kept = c.apply.ensures.kept in
    let changes : Changes old i p q = record { there = less; is = c.index_mut.ensures.value; name = ap (λ (r : Part). r.name) kept; names = ap (λ (r : Part). r.names) kept; prefixes = ap (λ (r : Part). r.prefixes) kept } in
    subst (λ (ps : List Part). NoneFell (counts_of ps) (counts_of (set old i q))) c.self.view_is (none_fell old i p q changes c.apply.ensures.cause.later)
