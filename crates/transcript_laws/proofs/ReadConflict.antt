-- The transcript with a conflict fits; where the conflict names the session's own opening, part 4 fails.
use Rattle.std.proofs.Common.{◌≡◌, ℕ, ◌<◌, ◌≤◌, ◌+◌, ◌-◌, ◌^◌, lit≤, zero, suc, List, [], ◌∷◌, codes, length, map, true, false, Option, Some, None, Ok, inr, refl, sym, ap, subst, ◌∙◌, arith, pos}
use Rattle.std.proofs.lemmas.Int.{ints}
use Rattle.std.specs.Prelude.{IsTrue, Contains, ◌==◌, Result, option_map}
use Rattle.std.specs.List.{AllByRecursion, list_all, slice_index}
use Rattle.std.specs.FinMap as finmap
use Rattle.std.specs.Fmt.{digits}
use Rattle.cells.specs.Numbers.{Holds, IsWord}
use Rattle.cells.specs.declared.dtype.Dtype.TheVariants.{I32}
use Rattle.cells.specs.declared.order.Order.TheVariants.{C}
use Rattle.serial_runs.specs.declared.Form.TheVariants as form
use Rattle.serial_runs.specs.declared.Want.TheVariants as want
use Rattle.line_meanings.specs.declared.ZarrMeta.{ZarrMeta}
use Rattle.answer_data.specs.Text.{answer_text, domain_text, events_text, dtype_text, conflict_text}
use Rattle.answer_data.specs.Pieces.{indices_text, numbers_text, text_of}
use Rattle.answer_data.specs.Nested.{word_text}
use Rattle.answer_data.specs.Answers.{answer_data}
use Rattle.serde_json.proofs.OnLiterals.{serde_json_on_literals}
use Rattle.serde_json.specs.Find.{get}
use Rattle.index_transform.specs.Cells.{is_finite}
use Rattle.index_transform.specs.Identity.{identity_over}
use Rattle.index_transform.specs.Transforms.{DomainAndMaps}
use Rattle.stack_driver.specs.Arrays.{array_domain}
use Rattle.stack_driver.proofs.Looks.{look-Leaf, own-Leaf, targets_by}
use Rattle.stack_driver.specs.Targets.{Cell, Target, outwards}
use Rattle.stack_driver.specs.Views.{Look, look_of, look_step, targets_of, own_transform}
use Rattle.stack_driver.specs.declared.error.TargetError.{TargetError}
use Rattle.stack_driver.specs.declared.view.View.TheOpen.{View-F}
use Rattle.history.specs.declared.event.Op.TheVariants.{Read, Write}
use Rattle.history.specs.Acts.{act_of, opens, reads, writes, begins, commits}
use Rattle.history.specs.Answers as body
use Rattle.history.specs.Chunks.{Chunk, key_of}
use Rattle.history.specs.Commit.{Key, Transaction}
use Rattle.history.specs.Legal.{IsLegal, IsLegalDone, IsLegalOpening, HasTarget}
use Rattle.history.specs.Leaves.{Leaf, nothing, metadata_key_asked}
use Rattle.history.specs.Lines as lines
use Rattle.history.specs.Outcomes.{IsOutcome, made, there}
use Rattle.history.specs.Own as own
use Rattle.history.specs.Own.{Numbered}
use Rattle.history.specs.Reads.{footprint_of, marked_world, visible_values}
use Rattle.history.specs.Sessions.{Names, bind, new_transaction}
use Rattle.history.specs.Touch.{touches}
use Rattle.history.specs.Viewing.{opened_body, values_body}
use Rattle.history.specs.Worked.{repeatable}
use Rattle.history.proofs.Histories.{legal_more, joint_more}
use Rattle.history.proofs.Plain.{plain-world}
use Rattle.history.specs.Content.{world_after}
use Rattle.history.specs.Writes.{Content, shown_in}
use Rattle.line_meanings.specs.Openings.{leaves_of, build_of}
use Rattle.line_meanings.specs.Numbers.{values_of}
use Rattle.line_meanings.proofs.TreeForms.{built-Leaf}
use Rattle.serial_runs.specs.Numbered.{IsEvent}
use Rattle.transcript_laws.specs.Transcript.{Told}
use Rattle.transcript_laws.specs.Numbers.{told_of, numbers_of, AreRising, AreNumbered}
use Rattle.transcript_laws.specs.Windows.{Window}
use Rattle.transcript_laws.specs.Claimed.{stated_asked, AreStated, IsStated, IsClaimed}
use Rattle.transcript_laws.specs.Standings.{Standing, first_standing, standing_step, standing_asked, act_at, names_opened}
use Rattle.transcript_laws.specs.Takings.{built_view}
use Rattle.transcript_laws.specs.Opening.{opened}
use Rattle.transcript_laws.specs.Fitting.{open_answer, read, written, begun, conflicts, IsAnswer, printed_at, IsFitting, AreFitting, ArePlain, Fits, IsConflictTold, IsOthersTouch}
use Rattle.transcript_laws.specs.ReadConflict.{scripts, transcript_of, text_4}
use Rattle.transcript_laws.specs.ReadConflictTold.{conflict_told, told_1, told_2, told_3, told_4, told_5, told_6, told_with, array, reference, whole, event_1, event_2, events}
use Rattle.transcript_laws.proofs.ReadConflictAsks.{making, finding, values, asked_1, asked_2, asked_3, asked_4, asked_5, asked_6, is_cut}

-- what is told of a session other than the first two: nothing
zero_not : (k : ℕ) → (0 == suc (suc k)) ≡ false
zero_not k = grind arith

one_not : (k : ℕ) → (1 == suc (suc k)) ≡ false
one_not k = grind arith

none_told : (k : ℕ) (conflict : Told) → conflict.session ≡ 0 → told_of (suc (suc k)) (told_with conflict) ≡ []
none_told k conflict is = rw (is, zero_not k, one_not k) refl

-- the view of the array
abbrev through : DomainAndMaps
through = identity_over (array_domain reference)

look : look_of whole ≡ look_step (View-F.Leaf reference through)
look = look-Leaf reference through

abbrev found : ℕ → Result Target TargetError
found i = Ok (record { cell = record { array = 0; index = i ∷ [] }; casts = [] })

targets : targets_of whole ≡ found 0 ∷ found 1 ∷ []
targets = targets_by whole _ look

-- what the lines do
builds_1 : build_of making (reference ∷ []) ≡ Ok whole
builds_1 = simp (built-Leaf (reference ∷ []) 0 None [])

builds_5 : build_of finding (reference ∷ []) ≡ Ok whole
builds_5 = simp (built-Leaf (reference ∷ []) 0 None [])

abbrev pub names : Names
names = bind (λ name. None) (codes "a") whole

abbrev pub standing_in : Option Transaction → Standing
standing_in t = record { names = names; transaction = t }

abbrev pub begun_2 : Transaction
begun_2 = new_transaction 2 repeatable

abbrev pub read_3 : Transaction
read_3 = record { line = 2; mode = repeatable; ops = Read whole (0 ∷ 0 ∷ []) ∷ []; marks = [] }

acts_1 : act_at first_standing told_1 ≡ Ok (opens (codes "a") (leaves_of making) (build_of making))
acts_1 = ap (act_of first_standing.names None) asked_1

acts_2 : act_at (standing_in None) told_2 ≡ Ok (begins repeatable)
acts_2 = ap (act_of names None) asked_2

asks_read : act_of names (Some begun_2) (lines.reading (codes "a") [] None) ≡ Ok (reads whole None)
asks_read = simp (look, targets)

acts_3 : act_at (standing_in (Some begun_2)) told_3 ≡ Ok (reads whole None)
acts_3 = ap (act_of names (Some begun_2)) asked_3 ∙ asks_read

pub acts_4 : act_at (standing_in (Some read_3)) told_4 ≡ Ok (commits read_3)
acts_4 = ap (act_of names (Some read_3)) asked_4

acts_5 : act_at first_standing told_5 ≡ Ok (opens (codes "a") (leaves_of finding) (build_of finding))
acts_5 = ap (act_of first_standing.names None) asked_5

asks_write : act_of names None (lines.writing (codes "a") [] (values_of values)) ≡ Ok (writes whole (0 ∷ 6 ∷ []))
asks_write = simp (look, targets)

acts_6 : act_at (standing_in None) told_6 ≡ Ok (writes whole (0 ∷ 6 ∷ []))
acts_6 = ap (act_of names None) asked_6 ∙ asks_write

pub stands_1 : standing_step events first_standing told_1 ≡ standing_in None
stands_1 =
    ap (λ asked. standing_asked events first_standing 1 asked told_1.answer) acts_1
    ∙ ap (λ r. record first_standing { names = names_opened first_standing.names (codes "a") (get (codes "open") told_1.answer) (built_view r) }) builds_1

pub stands_2 : standing_step events (standing_in None) told_2 ≡ standing_in (Some begun_2)
stands_2 = ap (λ asked. standing_asked events (standing_in None) 2 asked told_2.answer) acts_2

pub stands_3 : standing_step events (standing_in (Some begun_2)) told_3 ≡ standing_in (Some read_3)
stands_3 = ap (λ asked. standing_asked events (standing_in (Some begun_2)) 3 asked told_3.answer) acts_3 ∙ words
  where
    words : standing_asked events (standing_in (Some begun_2)) 3 (Ok (reads whole None)) told_3.answer ≡ standing_in (Some read_3)
    words = simp look

stands_5 : standing_step events first_standing told_5 ≡ standing_in None
stands_5 =
    ap (λ asked. standing_asked events first_standing 1 asked told_5.answer) acts_5
    ∙ ap (λ r. record first_standing { names = names_opened first_standing.names (codes "a") (get (codes "open") told_5.answer) (built_view r) }) builds_5

-- what they state
abbrev AreEvents : List Numbered → Type 0
AreEvents os = AllByRecursion (λ (o : Numbered). IsEvent events o.number o.event) os

states_1 : IsStated events first_standing told_1
states_1 = record {
  numbers = ap (λ asked. own.numbers_of (stated_asked events 0 1 asked told_1.answer)) acts_1;
  events = subst (λ asked. AreEvents (stated_asked events 0 1 asked told_1.answer)) (sym acts_1) (record { before = []; later = event_2 ∷ []; parts = refl; numbered = refl }, tt);
}

states_2 : IsStated events (standing_in None) told_2
states_2 = record {
  numbers = ap (λ asked. own.numbers_of (stated_asked events 0 2 asked told_2.answer)) acts_2;
  events = subst (λ asked. AreEvents (stated_asked events 0 2 asked told_2.answer)) (sym acts_2) tt;
}

states_3 : IsStated events (standing_in (Some begun_2)) told_3
states_3 = record {
  numbers = ap (λ asked. own.numbers_of (stated_asked events 0 3 asked told_3.answer)) acts_3;
  events = subst (λ asked. AreEvents (stated_asked events 0 3 asked told_3.answer)) (sym acts_3) tt;
}

states_4 : (text : List ℕ) (now from : ℕ) → IsStated events (standing_in (Some read_3)) (conflict_told text now from)
states_4 text now from = record {
  numbers = ap (λ asked. own.numbers_of (stated_asked events 0 4 asked (conflict_told text now from).answer)) acts_4;
  events = subst (λ asked. AreEvents (stated_asked events 0 4 asked (conflict_told text now from).answer)) (sym acts_4) tt;
}

states_5 : IsStated events first_standing told_5
states_5 = record {
  numbers = ap (λ asked. own.numbers_of (stated_asked events 1 1 asked told_5.answer)) acts_5;
  events = subst (λ asked. AreEvents (stated_asked events 1 1 asked told_5.answer)) (sym acts_5) tt;
}

states_6 : IsStated events (standing_in None) told_6
states_6 = record {
  numbers = ap (λ asked. own.numbers_of (stated_asked events 1 2 asked told_6.answer)) acts_6;
  events = subst (λ asked. AreEvents (stated_asked events 1 2 asked told_6.answer)) (sym acts_6) (record { before = event_1 ∷ []; later = []; parts = refl; numbered = refl }, tt);
}

-- where all of a session's standings are known, what holds of them by their steps
stated_first : (conflict : Told) → IsStated events (standing_in (Some read_3)) conflict → AreStated events first_standing (told_1 ∷ told_2 ∷ told_3 ∷ conflict ∷ [])
stated_first conflict last = (
  states_1,
  subst (λ (s : Standing). AreStated events s (told_2 ∷ told_3 ∷ conflict ∷ [])) (sym stands_1) (
    states_2,
    subst (λ (s : Standing). AreStated events s (told_3 ∷ conflict ∷ [])) (sym stands_2)
        (states_3, subst (λ (s : Standing). AreStated events s (conflict ∷ [])) (sym stands_3) (last, tt)),
  ),
)

stated_second : AreStated events first_standing (told_5 ∷ told_6 ∷ [])
stated_second = (states_5, subst (λ (s : Standing). AreStated events s (told_6 ∷ [])) (sym stands_5) (states_6, tt))

stated : (text : List ℕ) (now from session : ℕ) → AreStated events first_standing (told_of session (told_with (conflict_told text now from)))
stated text now from zero = stated_first (conflict_told text now from) (states_4 text now from)
stated text now from (suc zero) = stated_second
stated text now from (suc (suc k)) = subst (AreStated events first_standing) (sym (none_told k (conflict_told text now from) refl)) tt

-- the history is legal
one_size : (n limit : ℕ) → n ≤ limit → (k : ℕ) → k < 1 → slice_index (n ∷ []) k ≤ limit
one_size n limit low zero is = low
one_size n limit low (suc k) is = absurd (omega (arith, is))

one_least : (n : ℕ) → 1 ≤ n → (k : ℕ) → k < 1 → 1 ≤ slice_index (n ∷ []) k
one_least n low zero is = low
one_least n low (suc k) is = absurd (omega (arith, is))

may_open : IsLegalOpening [] array
may_open = record {
  number = refl;
  alone = λ a. tt;
  placed = record { one_part = ((λ e. absurd (cc)), ((λ e. absurd (cc)), ((λ e. absurd (cc)), ((λ e. absurd (cc)), ((λ e. absurd (cc)), ((λ e. absurd (cc)), tt)))))); not_local = λ e. absurd (cc) };
  kept = record {
    valid = record {
      shape = record { rank = lit≤ tt; sizes = one_size 2 (2 ^ 62 - 2) (lit≤ tt) };
      ranks = refl;
      chunks = record { least = one_least 2 (lit≤ tt); greatest = one_size 2 (2 ^ 24) (lit≤ tt); volume = lit≤ tt };
      fill = λ x is. absurd (cc);
      one_byte = λ e. absurd (cc);
    };
    shape = refl;
    dtype = refl;
    fill = refl;
  };
}

finite_cells : IsTrue (list_all is_finite (look_of whole).dims)
finite_cells = ap (λ (l : Look). list_all is_finite l.dims) look

held : (n : ℕ) → n ≤ 6 → Holds I32 (pos n)
held n low = record { from_least = omega (arith, ints); to_greatest = omega (arith, ints, low) }

word_0 : IsWord (look_of whole).dtype 0
word_0 = subst (λ (l : Look). IsWord l.dtype 0) (sym look) (record { in_64_bits = lit≤ tt; held = held 0 (lit≤ tt) })

word_6 : IsWord (look_of whole).dtype 6
word_6 = subst (λ (l : Look). IsWord l.dtype 6) (sym look) (record { in_64_bits = lit≤ tt; held = held 6 (lit≤ tt) })

legal_write : IsLegalDone finmap.empty (event_1 ∷ []) (Write whole (0 ∷ 6 ∷ []) ∷ [])
legal_write = record {
  each = (
    record {
      finite = finite_cells;
      targets = subst (AllByRecursion (HasTarget (event_1 ∷ []))) (sym targets) (refl, (refl, tt));
      count = ap length (sym targets);
      words = (word_0, (word_6, tt));
    },
    tt,
  );
  reads = tt;
}

legal_first : IsLegal finmap.empty (event_1 ∷ [])
legal_first = legal_more finmap.empty [] event_1 tt may_open

legal : IsLegal finmap.empty events
legal = legal_more finmap.empty (event_1 ∷ []) event_2 legal_first legal_write

-- the numbers
each_is : (n : ℕ) → n < 2 → Contains {X = ℕ} (1 ∷ 2 ∷ []) (n + 1)
each_is zero low = (0, lit≤ tt, refl)
each_is (suc zero) low = (1, lit≤ tt, refl)
each_is (suc (suc n)) low = absurd (omega (arith, low))

rises : (text : List ℕ) (now from session : ℕ) → AreRising (numbers_of (told_of session (told_with (conflict_told text now from))))
rises text now from zero = tt
rises text now from (suc zero) = tt
rises text now from (suc (suc k)) = subst (λ ts. AreRising (numbers_of ts)) (sym (none_told k (conflict_told text now from) refl)) tt

pub numbered : (text : List ℕ) (now from : ℕ) → AreNumbered (told_with (conflict_told text now from))
numbered text now from = record { each = each_is; rising = rises text now from }

pub claimed : (text : List ℕ) (now from : ℕ) → IsClaimed (told_with (conflict_told text now from)) events
claimed text now from = record { sessions = stated text now from; count = refl; legal = legal }

-- the answers
abbrev window : ℕ → ℕ → Window
window from upto = record { from = from; upto = upto }

opened_so : (numbers : List ℕ) → opened_body (codes "a") whole numbers ≡ body.opened (codes "a") I32 (array_domain reference) numbers
opened_so numbers = ap (λ (l : Look). body.opened (codes "a") l.dtype (own_transform whole).domain numbers) look ∙ ap (λ (t : DomainAndMaps). body.opened (codes "a") I32 t.domain numbers) (own-Leaf reference through)

text_of_1 : told_1.text ≡ answer_text (printed_at 1 (body.opened (codes "a") I32 (array_domain reference) (1 ∷ [])))
unfolding domain_text events_text dtype_text numbers_text text_of digits serde_json_on_literals
text_of_1 = refl

object_of_1 : told_1.answer ≡ answer_data (printed_at 1 (body.opened (codes "a") I32 (array_domain reference) (1 ∷ [])))
object_of_1 = refl

text_of_5 : told_5.text ≡ answer_text (printed_at 1 (body.opened (codes "a") I32 (array_domain reference) []))
unfolding domain_text events_text dtype_text numbers_text text_of digits serde_json_on_literals
text_of_5 = refl

object_of_5 : told_5.answer ≡ answer_data (printed_at 1 (body.opened (codes "a") I32 (array_domain reference) []))
object_of_5 = refl

abbrev meta_of : ZarrMeta
meta_of = record { shape = 2 ∷ []; chunks = 2 ∷ []; dtype = I32; big = false; fill = None; order = C; slash = false }

abbrev asked_making : Leaf
asked_making = record {
  mount = codes "memory";
  path = codes "a";
  want = want.Zarr (record { shape = Some (2 ∷ []); chunks = Some (2 ∷ []); dtype = Some I32; big = Some false; fill = None; order = None; slash = None });
  may_open = false;
  may_create = true;
}

abbrev asked_finding : Leaf
asked_finding = record {
  mount = codes "memory";
  path = codes "a";
  want = want.Zarr (record { shape = None; chunks = None; dtype = None; big = None; fill = None; order = None; slash = None });
  may_open = true;
  may_create = false;
}

makes : IsOutcome finmap.empty [] asked_making (made (form.Zarr meta_of))
makes = record { stored = nothing; read = λ none. finmap.get-empty _ (metadata_key_asked asked_making); same = refl }

finds : IsOutcome finmap.empty (event_1 ∷ []) asked_finding (there (record { info = array; opened = 1; shape = 2 ∷ [] }))
finds = record { stored = nothing; read = λ none. finmap.get-empty _ (metadata_key_asked asked_finding); same = refl }

answers_1 : IsFitting events (window 1 2) first_standing told_1
answers_1 = record {
  answer = opened_body (codes "a") whole (1 ∷ []);
  printed = text_of_1 ∙ ap (λ b. answer_text (printed_at 1 b)) (sym (opened_so (1 ∷ [])));
  object = object_of_1 ∙ ap (λ b. answer_data (printed_at 1 b)) (sym (opened_so (1 ∷ [])));
  may = subst (λ asked. IsAnswer events 0 (window 1 2) None 1 (1 ∷ []) asked (opened_body (codes "a") whole (1 ∷ []))) (sym acts_1)
      (open_answer (opened {refs = reference ∷ []} {view = whole} (record { settled = ((form.Zarr meta_of, makes), tt); arrays = refl }) builds_1));
}

answers_2 : IsFitting events (window 1 2) (standing_in None) told_2
unfolding digits
answers_2 = record {
  answer = body.begun;
  printed = refl;
  object = refl;
  may = subst (λ asked. IsAnswer events 0 (window 1 2) None 2 [] asked body.begun) (sym acts_2) begun;
}

values_so : values_body whole None (0 ∷ 0 ∷ []) ≡ body.values (pos 0 ∷ []) (2 ∷ []) I32 (0 ∷ 0 ∷ [])
values_so = simp look

text_of_3 : told_3.text ≡ answer_text (printed_at 3 (body.values (pos 0 ∷ []) (2 ∷ []) I32 (0 ∷ 0 ∷ [])))
unfolding indices_text word_text digits
text_of_3 = refl

object_of_3 : told_3.answer ≡ answer_data (printed_at 3 (body.values (pos 0 ∷ []) (2 ∷ []) I32 (0 ∷ 0 ∷ [])))
object_of_3 = refl

-- behind event 1 the array has the fill
abbrev cell : ℕ → Cell
cell i = record { array = 0; index = i ∷ [] }

first_word : world_after finmap.empty (event_1 ∷ []) (cell 0) ≡ Some 0
first_word = sym (plain-world (cell 0) (event_1 ∷ []) legal_first (joint_more [] event_1 tt tt))

second_word : world_after finmap.empty (event_1 ∷ []) (cell 1) ≡ Some 0
second_word = sym (plain-world (cell 1) (event_1 ∷ []) legal_first (joint_more [] event_1 tt tt))

abbrev content : Content
content = marked_world finmap.empty events (λ c. 1)

sees : map Some (0 ∷ 0 ∷ []) ≡ visible_values finmap.empty events (λ c. 1) [] whole
sees = sym (ap (map (shown_in content)) targets ∙ ap (λ o. option_map (outwards []) o ∷ option_map (outwards []) (content (cell 1)) ∷ []) first_word ∙ ap (λ o. Some 0 ∷ option_map (outwards []) o ∷ []) second_word)

answers_3 : IsFitting events (window 1 2) (standing_in (Some begun_2)) told_3
answers_3 = record {
  answer = values_body whole None (0 ∷ 0 ∷ []);
  printed = text_of_3 ∙ ap (λ b. answer_text (printed_at 3 b)) (sym values_so);
  object = object_of_3 ∙ ap (λ b. answer_data (printed_at 3 b)) (sym values_so);
  may = subst (λ asked. IsAnswer events 0 (window 1 2) (Some begun_2) 3 [] asked (values_body whole None (0 ∷ 0 ∷ []))) (sym acts_3)
      (read (record { marks = λ c. 1; within = λ c. (lit≤ tt, lit≤ tt); shown = sees }));
}

abbrev pub chunk : Chunk
chunk = record { array = 0; index = 0 ∷ [] }

abbrev pub key : Key
key = codes "memory/a/0"

pub footprint : footprint_of events read_3.ops ≡ chunk ∷ chunk ∷ []
footprint = simp targets

writes_it : touches (event_1 ∷ []) event_2 chunk ≡ true
writes_it = simp targets

pub has_key : key_of events chunk ≡ Some key
unfolding digits
has_key = refl

between : IsOthersTouch events 0 chunk 2
between = record { touch = record { before = event_1 ∷ []; event = event_2; later = []; parts = refl; number = refl; touched = writes_it }; other = λ is. absurd (omega (arith, is)) }

conflict : IsConflictTold events 0 read_3 key 1 2
conflict = record {
  asked = refl;
  chunk = chunk;
  was_read = subst (λ cs. Contains cs chunk) (sym footprint) (0, lit≤ tt, refl);
  named = has_key;
  later = lit≤ tt;
  read_at = inr (record { before = []; event = event_1; later = event_2 ∷ []; parts = refl; number = refl; touched = refl });
  now_at = between;
}

text_of_4 : told_4.text ≡ answer_text (printed_at 4 (body.conflict key 1 2))
unfolding conflict_text text_of digits serde_json_on_literals
text_of_4 = refl

object_of_4 : told_4.answer ≡ answer_data (printed_at 4 (body.conflict key 1 2))
object_of_4 = refl

answers_4 : IsFitting events (window 1 2) (standing_in (Some read_3)) told_4
answers_4 = record {
  answer = body.conflict key 1 2;
  printed = text_of_4;
  object = object_of_4;
  may = subst (λ asked. IsAnswer events 0 (window 1 2) (Some read_3) 4 [] asked (body.conflict key 1 2)) (sym acts_4) (conflicts conflict);
}

answers_5 : IsFitting events (window 0 1) first_standing told_5
answers_5 = record {
  answer = opened_body (codes "a") whole [];
  printed = text_of_5 ∙ ap (λ b. answer_text (printed_at 1 b)) (sym (opened_so []));
  object = object_of_5 ∙ ap (λ b. answer_data (printed_at 1 b)) (sym (opened_so []));
  may = subst (λ asked. IsAnswer events 1 (window 0 1) None 1 [] asked (opened_body (codes "a") whole [])) (sym acts_5)
      (open_answer (opened {refs = reference ∷ []} {view = whole} (record { settled = ((record { info = array; opened = 1; shape = 2 ∷ [] }, finds), tt); arrays = refl }) builds_5));
}

text_of_6 : told_6.text ≡ answer_text (printed_at 2 (body.written 2 (2 ∷ [])))
unfolding numbers_text digits
text_of_6 = refl

object_of_6 : told_6.answer ≡ answer_data (printed_at 2 (body.written 2 (2 ∷ [])))
object_of_6 = refl

answers_6 : IsFitting events (window 0 1) (standing_in None) told_6
answers_6 = record {
  answer = body.written 2 (2 ∷ []);
  printed = text_of_6;
  object = object_of_6;
  may = subst (λ asked. IsAnswer events 1 (window 0 1) None 2 [] asked (body.written 2 (2 ∷ []))) (sym acts_6) (written 2);
}

-- all lines of each session
fits_first : AreFitting events [] first_standing (told_1 ∷ told_2 ∷ told_3 ∷ told_4 ∷ [])
fits_first = (
  answers_1,
  subst (λ (s : Standing). AreFitting events (told_1 ∷ []) s (told_2 ∷ told_3 ∷ told_4 ∷ [])) (sym stands_1) (
    answers_2,
    subst (λ (s : Standing). AreFitting events (told_1 ∷ told_2 ∷ []) s (told_3 ∷ told_4 ∷ [])) (sym stands_2)
        (answers_3, subst (λ (s : Standing). AreFitting events (told_1 ∷ told_2 ∷ told_3 ∷ []) s (told_4 ∷ [])) (sym stands_3) (answers_4, tt)),
  ),
)

fits_second : AreFitting events [] first_standing (told_5 ∷ told_6 ∷ [])
fits_second = (answers_5, subst (λ (s : Standing). AreFitting events (told_5 ∷ []) s (told_6 ∷ [])) (sym stands_5) (answers_6, tt))

answered : (session : ℕ) → AreFitting events [] first_standing (told_of session (told_with told_4))
answered zero = fits_first
answered (suc zero) = fits_second
answered (suc (suc k)) = subst (AreFitting events [] first_standing) (sym (none_told k told_4 refl)) tt

plain : ArePlain (told_with told_4)
plain = (
  record { not_atomic = refl; damaged = refl; bad_meta = refl; shrunk = refl },
  (
    record { not_atomic = refl; damaged = refl; bad_meta = refl; shrunk = refl },
    (
      record { not_atomic = refl; damaged = refl; bad_meta = refl; shrunk = refl },
      (
        record { not_atomic = refl; damaged = refl; bad_meta = refl; shrunk = refl },
        (record { not_atomic = refl; damaged = refl; bad_meta = refl; shrunk = refl }, (record { not_atomic = refl; damaged = refl; bad_meta = refl; shrunk = refl }, tt)),
      ),
    ),
  ),
)

-- the transcript with the conflict fits, by two events
pub row_fits : Fits scripts (transcript_of text_4) events
row_fits = record { told = told_with told_4; cut = is_cut; fit = record { numbered = numbered text_4 2 1; claimed = claimed text_4 2 1; answered = answered; plain = plain } }
