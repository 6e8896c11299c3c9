use Rattle.std.proofs.Common.{◌≡◌, ◌∙◌, ℕ, List, length, refl, sym, ap}
use Rattle.transaction_cells.specs.Sites.{sites_of}
use Rattle.transaction_cells.proofs.CastLaws.{plain_back}
use Rattle.transaction_cells.proofs.OperationLaws.{staged_more}
use Rattle.transaction_cells.proofs.WrittenLaws.{kept_words, length-kept, count_of}
use Rattle.transaction_cells.proofs.staging.Staging.stage.Goals as goal

pub returns-then-is_plain-clause-ok : goal.returns-then-is_plain-clause-ok
returns-then-is_plain-clause-ok c sites are id =
    let cells = c.args.cells.now in
    let words = c.args.words.now in
    let long : length words ≡ length cells.leaves = c.requires.counted ∙ count_of c.requires.sites cells.lanes cells.leaves c.requires.are.casts in
    c.in_ok-stage_kept.ensures.ok sites are words (c.seen.ensures ∙ sym (plain_back cells.lanes cells.leaves words (c.if-is_plain.ensures refl) long)) (sym (ap (λ (xs : List ℕ). length xs) c.seen.ensures)) id

pub returns-then-is_plain-clause-history : goal.returns-then-is_plain-clause-history
returns-then-is_plain-clause-history c events v ops leaves has are words h =
    staged_more events v ops c.args.words.now c.args.self.now _ leaves has (λ id. returns-then-is_plain-clause-ok c (sites_of v) are id) words h

pub stage_kept-requires-2 : goal.stage_kept-requires-2
stage_kept-requires-2 c =
    let sites = c.requires.sites in
    let kept = c.deref.ensures.value ∙ c.in_ok-kept.ensures ∙ kept_words sites c.args.cells.now.lanes c.args.cells.now.leaves c.args.words.now c.requires.are.casts in
    record {
      sites = sites;
      are = c.requires.are;
      counted = ap (λ (xs : List ℕ). length xs) kept ∙ length-kept sites c.args.words.now c.requires.counted;
      sized = c.requires.sized;
      inside = c.requires.inside;
      small = c.requires.small;
    }

pub returns-clause-ok : goal.returns-clause-ok
returns-clause-ok c sites are id =
    let known = c.requires.sites in
    let kept = c.deref.ensures.value ∙ c.in_ok-kept.ensures in
    let long : length c.deref.result.now ≡ length known =
    ap (λ (xs : List ℕ). length xs) (kept ∙ kept_words known c.args.cells.now.lanes c.args.cells.now.leaves c.args.words.now c.requires.are.casts) ∙ length-kept known c.args.words.now c.requires.counted in
    c.in_ok-stage_kept-2.ensures.ok sites are c.args.words.now kept (c.requires.counted ∙ sym long) id

pub returns-clause-history : goal.returns-clause-history
returns-clause-history c events v ops leaves has are words h =
    staged_more events v ops c.args.words.now c.args.self.now _ leaves has (λ id. returns-clause-ok c (sites_of v) are id) words h
