use Rattle.std.proofs.Common.{◌≡◌, ◌<◌, length, get_or, set, true, false, ap, sym, subst, ◌∙◌, arith, List, Some}
use Rattle.std.specs.Prelude.{IfSome}
use Rattle.std.specs.FinMap as finmap
use Rattle.std.specs.List.{list_any}
use Rattle.std.proofs.lemmas.Result.{IfOk-weaker}
use Rattle.kv_face.specs.Store.{NoneFell}
use Rattle.kv_mounts.specs.Parts.{Part, names_of, begins}
use Rattle.kv_mounts.specs.Union.{union_of, counts_of, prefixes_of, change_count_of, standing_of}
use Rattle.kv_mounts.proofs.UnionLaws.{got}
use Rattle.kv_mounts.proofs.Kept.{Changes, any_names, few_at, AreMounts-set, union_of-set, prefixes_of-set, names_of-kept, standing_of-set, change_count_of-set, none_fell}
use Rattle.kv_mounts.proofs.mounts.MountsKvStore.get_shared.Goals as goal

pub unreachable-requires : goal.unreachable-requires
unreachable-requires g c =
    let none : list_any (λ (p : Part). begins p.name c.args.key.now) c.args.self.now ≡ false =
    ap (λ (ps : List Part). list_any (λ (p : Part). begins p.name c.args.key.now) ps) (sym (c.as_slice.ensures.value ∙ c.self.view_is)) ∙ c.place_of.ensures.none c.in_default.is in
    let wrong : true ≡ false = sym c.requires ∙ any_names (λ n. begins n c.args.key.now) c.args.self.now ∙ none in
    cc wrong

pub get_shared-requires-clause-few : goal.get_shared-requires-clause-few
get_shared-requires-clause-few g c =
    let old = c.self.inside.list.items in
    let less : c.in-Some.place < length old = omega (arith, c.in-Some.ensures.found.0, ap length c.as_slice.ensures.value) in
    few_at old c.in-Some.place c.index_mut.result.now c.self.invariant less c.index_mut.ensures.value

pub invariant_of-self : goal.invariant_of-self
invariant_of-self g c =
    let old = c.self.inside.list.items in
    let i = c.in-Some.place in
    let p = c.index_mut.result.now in
    let q = c.get_shared.new.self in
    let less : i < length old = omega (arith, c.in-Some.ensures.found.0, ap length c.as_slice.ensures.value) in
    let changes : Changes old i p q = record { there = less; is = c.index_mut.ensures.value; name = ap (λ (r : Part). r.name) c.get_shared.ensures.kept; names = ap (λ (r : Part). r.names) c.get_shared.ensures.kept; prefixes = ap (λ (r : Part). r.prefixes) c.get_shared.ensures.kept } in
    AreMounts-set old i p q changes c.self.invariant

pub returns-clause-value : goal.returns-clause-value
returns-clause-value g c =
    let old = c.self.inside.list.items in
    let i = c.in-Some.place in
    let p = c.index_mut.result.now in
    let key = c.args.key.now in
    let less : i < length old = omega (arith, c.in-Some.ensures.found.0, ap length c.as_slice.ensures.value) in
    let begun : begins p.name key ≡ true = ap (λ (r : Part). begins r.name key) (c.index_mut.ensures.value ∙ ap (λ (ps : List Part). get_or ps i p) (sym c.as_slice.ensures.value)) ∙ c.in-Some.ensures.found.1 p in
    IfOk-weaker c.get_shared.result _ _
    (λ v h. subst (λ (ps : List Part). IfSome (union_of ps) (λ m. v ≡ finmap.get m key)) c.self.view_is (got old i p key v c.self.invariant less c.index_mut.ensures.value begun h))
    c.get_shared.ensures.value

pub returns-clause-contents : goal.returns-clause-contents
returns-clause-contents g c =
    let old = c.self.inside.list.items in
    let i = c.in-Some.place in
    let p = c.index_mut.result.now in
    let q = c.get_shared.new.self in
    let less : i < length old = omega (arith, c.in-Some.ensures.found.0, ap length c.as_slice.ensures.value) in
    let changes : Changes old i p q = record { there = less; is = c.index_mut.ensures.value; name = ap (λ (r : Part). r.name) c.get_shared.ensures.kept; names = ap (λ (r : Part). r.names) c.get_shared.ensures.kept; prefixes = ap (λ (r : Part). r.prefixes) c.get_shared.ensures.kept } in
    union_of-set old i p q changes (ap (λ (r : Part). r.contents) c.get_shared.ensures.kept) ∙ ap union_of c.self.view_is

pub returns-clause-prefixes : goal.returns-clause-prefixes
returns-clause-prefixes g c =
    let old = c.self.inside.list.items in
    let i = c.in-Some.place in
    let p = c.index_mut.result.now in
    let q = c.get_shared.new.self in
    let less : i < length old = omega (arith, c.in-Some.ensures.found.0, ap length c.as_slice.ensures.value) in
    let changes : Changes old i p q = record { there = less; is = c.index_mut.ensures.value; name = ap (λ (r : Part). r.name) c.get_shared.ensures.kept; names = ap (λ (r : Part). r.names) c.get_shared.ensures.kept; prefixes = ap (λ (r : Part). r.prefixes) c.get_shared.ensures.kept } in
    prefixes_of-set old i p q changes ∙ ap prefixes_of c.self.view_is

pub returns-clause-names : goal.returns-clause-names
returns-clause-names g c =
    let old = c.self.inside.list.items in
    let i = c.in-Some.place in
    let p = c.index_mut.result.now in
    let q = c.get_shared.new.self in
    let less : i < length old = omega (arith, c.in-Some.ensures.found.0, ap length c.as_slice.ensures.value) in
    let changes : Changes old i p q = record { there = less; is = c.index_mut.ensures.value; name = ap (λ (r : Part). r.name) c.get_shared.ensures.kept; names = ap (λ (r : Part). r.names) c.get_shared.ensures.kept; prefixes = ap (λ (r : Part). r.prefixes) c.get_shared.ensures.kept } in
    ap Some (names_of-kept old i p q changes ∙ ap names_of c.self.view_is)

pub returns-clause-standing : goal.returns-clause-standing
returns-clause-standing g c =
    let old = c.self.inside.list.items in
    let i = c.in-Some.place in
    let p = c.index_mut.result.now in
    let q = c.get_shared.new.self in
    let less : i < length old = omega (arith, c.in-Some.ensures.found.0, ap length c.as_slice.ensures.value) in
    let changes : Changes old i p q = record { there = less; is = c.index_mut.ensures.value; name = ap (λ (r : Part). r.name) c.get_shared.ensures.kept; names = ap (λ (r : Part). r.names) c.get_shared.ensures.kept; prefixes = ap (λ (r : Part). r.prefixes) c.get_shared.ensures.kept } in
    standing_of-set old i p q changes (ap (λ (r : Part). r.standing) c.get_shared.ensures.kept) ∙ ap standing_of c.self.view_is

pub returns-clause-change_count : goal.returns-clause-change_count
returns-clause-change_count g c =
    let old = c.self.inside.list.items in
    let i = c.in-Some.place in
    let p = c.index_mut.result.now in
    let q = c.get_shared.new.self in
    let less : i < length old = omega (arith, c.in-Some.ensures.found.0, ap length c.as_slice.ensures.value) in
    let changes : Changes old i p q = record { there = less; is = c.index_mut.ensures.value; name = ap (λ (r : Part). r.name) c.get_shared.ensures.kept; names = ap (λ (r : Part). r.names) c.get_shared.ensures.kept; prefixes = ap (λ (r : Part). r.prefixes) c.get_shared.ensures.kept } in
    change_count_of-set old i p q changes (ap (λ (r : Part). r.change_count) c.get_shared.ensures.kept) ∙ ap change_count_of c.self.view_is

pub returns-clause-counts : goal.returns-clause-counts
returns-clause-counts g c =
    let old = c.self.inside.list.items in
    let i = c.in-Some.place in
    let p = c.index_mut.result.now in
    let q = c.get_shared.new.self in
    let less : i < length old = omega (arith, c.in-Some.ensures.found.0, ap length c.as_slice.ensures.value) in
    let changes : Changes old i p q = record { there = less; is = c.index_mut.ensures.value; name = ap (λ (r : Part). r.name) c.get_shared.ensures.kept; names = ap (λ (r : Part). r.names) c.get_shared.ensures.kept; prefixes = ap (λ (r : Part). r.prefixes) c.get_shared.ensures.kept } in
    subst (λ (ps : List Part). NoneFell (counts_of ps) (counts_of (set old i q))) c.self.view_is (none_fell old i p q changes c.get_shared.ensures.cause.later)
