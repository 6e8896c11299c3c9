-- The transcript of three cells fits its script.
use Rattle.std.proofs.Common.{◌≡◌, ℕ, ◌<◌, ◌≤◌, ◌+◌, ◌-◌, ◌^◌, lit≤, zero, suc, List, [], ◌∷◌, codes, length, map, Bool, true, false, cond, Some, None, Ok, refl, sym, ap, subst, ◌∙◌, arith, pos}
use Rattle.std.proofs.lemmas.Int.{ints}
use Rattle.std.specs.Prelude.{IsTrue, Contains, ◌==◌}
use Rattle.std.specs.List.{AllByRecursion, list_all, slice_index}
use Rattle.std.specs.FinMap as finmap
use Rattle.std.specs.Fmt.{digits}
use Rattle.cells.specs.Numbers.{Holds, IsWord}
use Rattle.cells.specs.declared.dtype.Dtype.TheVariants.{I32}
use Rattle.cells.specs.declared.order.Order.TheVariants.{C}
use Rattle.serial_runs.specs.declared.Form.TheVariants as form
use Rattle.answer_data.specs.Text.{answer_text, domain_text, events_text, dtype_text}
use Rattle.answer_data.specs.Pieces.{indices_text, numbers_text, text_of}
use Rattle.answer_data.specs.Nested.{word_text}
use Rattle.answer_data.specs.Answers.{answer_data}
use Rattle.serde_json.proofs.OnLiterals.{serde_json_on_literals}
use Rattle.index_transform.specs.Cells.{is_finite}
use Rattle.stack_driver.specs.Arrays.{array_domain}
use Rattle.index_transform.specs.Transforms.{DomainAndMaps}
use Rattle.index_transform.specs.Identity.{identity_over}
use Rattle.stack_driver.proofs.Looks.{look-Leaf, own-Leaf, targets_by}
use Rattle.stack_driver.specs.Targets.{Target}
use Rattle.stack_driver.specs.Views.{Look, look_of, look_step, targets_of, own_transform}
use Rattle.stack_driver.specs.declared.view.View.TheOpen.{View-F}
use Rattle.stack_driver.specs.declared.error.TargetError.{TargetError}
use Rattle.std.specs.Prelude.{Result}
use Rattle.history.specs.declared.event.Op.TheVariants.{Write}
use Rattle.history.specs.Acts.{act_of, opens, reads, writes}
use Rattle.history.specs.Answers as body
use Rattle.history.specs.Legal.{IsLegal, IsLegalDone, IsLegalOpening, HasTarget}
use Rattle.history.specs.Leaves.{Leaf, nothing, metadata_key_asked}
use Rattle.history.specs.Outcomes.{IsOutcome, made}
use Rattle.line_meanings.specs.declared.ZarrMeta.{ZarrMeta}
use Rattle.serial_runs.specs.declared.Want.TheVariants as want
use Rattle.history.specs.Lines as lines
use Rattle.history.specs.Own as own
use Rattle.history.specs.Own.{Numbered}
use Rattle.history.specs.Reads.{visible_values}
use Rattle.history.specs.Sessions.{bind}
use Rattle.history.specs.Viewing.{opened_body, values_body}
use Rattle.history.proofs.Histories.{legal_more}
use Rattle.line_meanings.specs.Openings.{leaves_of, build_of}
use Rattle.line_meanings.specs.Numbers.{values_of}
use Rattle.line_meanings.proofs.TreeForms.{built-Leaf}
use Rattle.serial_runs.specs.Numbered.{IsEvent}
use Rattle.transcript_laws.specs.Transcript.{Told}
use Rattle.transcript_laws.specs.Numbers.{numbers_of, AreRising, AreNumbered}
use Rattle.transcript_laws.specs.Windows.{Window, window_of}
use Rattle.serde_json.specs.Find.{get}
use Rattle.transcript_laws.specs.Claimed.{stated_asked, AreStated, IsStated, IsClaimed}
use Rattle.transcript_laws.specs.Standings.{names_opened, Standing, first_standing, standing_step, standing_asked, act_at}
use Rattle.transcript_laws.specs.Takings.{built_view}
use Rattle.transcript_laws.specs.Opening.{opened}
use Rattle.transcript_laws.specs.Fitting.{open_answer, written, read, IsAnswer, printed_at, IsFitting, AreFitting, ArePlain, Fits}
use Rattle.transcript_laws.specs.ThreeCells.{scripts, transcript}
use Rattle.transcript_laws.specs.ThreeCellsTold.{told_1, told_2, told_3, told_all, array, reference, whole, event_1, event_2, events}
use Rattle.transcript_laws.proofs.ThreeCellsAsks.{plan, values, asked_1, asked_2, asked_3, is_cut}

-- what is told of a session: all or nothing
abbrev by : Bool → List Told
by b = cond b (told_1 ∷ cond b (told_2 ∷ cond b (told_3 ∷ []) []) (cond b (told_3 ∷ []) [])) (cond b (told_2 ∷ cond b (told_3 ∷ []) []) (cond b (told_3 ∷ []) []))

rises : (b : Bool) → AreRising (numbers_of (by b))
rises true = (lit≤ tt, tt)
rises false = tt

each_is : (n : ℕ) → n < 2 → Contains {X = ℕ} (1 ∷ 2 ∷ []) (n + 1)
each_is zero low = (0, lit≤ tt, refl)
each_is (suc zero) low = (1, lit≤ tt, refl)
each_is (suc (suc n)) low = absurd (omega (arith, low))

numbered : AreNumbered told_all
numbered = record { each = each_is; rising = λ session. rises (0 == session) }

-- the view of the array
abbrev through : DomainAndMaps
through = identity_over (array_domain reference)

pub look : look_of whole ≡ look_step (View-F.Leaf reference through)
look = look-Leaf reference through

abbrev found : ℕ → Result Target TargetError
found i = Ok (record { cell = record { array = 0; index = i ∷ [] }; casts = [] })

pub targets : targets_of whole ≡ found 0 ∷ found 1 ∷ found 2 ∷ []
targets = targets_by whole _ look

-- what the lines do
pub builds : build_of plan (reference ∷ []) ≡ Ok whole
builds = simp (built-Leaf (reference ∷ []) 0 None [])

pub acts_1 : act_at first_standing told_1 ≡ Ok (opens (codes "a") (leaves_of plan) (build_of plan))
acts_1 = ap (act_of first_standing.names None) asked_1

abbrev pub named : Standing
named = record { names = bind (λ name. None) (codes "a") whole; transaction = None }

asks_write : act_of named.names None (lines.writing (codes "a") [] (values_of values)) ≡ Ok (writes whole (1 ∷ 2 ∷ 3 ∷ []))
asks_write = simp (look, targets)

pub acts_2 : act_at named told_2 ≡ Ok (writes whole (1 ∷ 2 ∷ 3 ∷ []))
acts_2 = ap (act_of named.names None) asked_2 ∙ asks_write

asks_read : act_of named.names None (lines.reading (codes "a") [] None) ≡ Ok (reads whole None)
asks_read = simp (look, targets)

pub acts_read : act_at named told_3 ≡ Ok (reads whole None)
acts_read = ap (act_of named.names None) asked_3 ∙ asks_read

pub stands_1 : standing_step events first_standing told_1 ≡ named
stands_1 =
    ap (λ asked. standing_asked events first_standing 1 asked told_1.answer) acts_1
    ∙ ap (λ r. record first_standing { names = names_opened first_standing.names (codes "a") (get (codes "open") told_1.answer) (built_view r) }) builds

pub stands_2 : standing_step events named told_2 ≡ named
stands_2 = ap (λ asked. standing_asked events named 2 asked told_2.answer) acts_2

-- what they state
abbrev pub AreEvents : List Numbered → Type 0
AreEvents os = AllByRecursion (λ (o : Numbered). IsEvent events o.number o.event) os

pub states_1 : IsStated events first_standing told_1
states_1 = record {
  numbers = ap (λ asked. own.numbers_of (stated_asked events 0 1 asked told_1.answer)) acts_1;
  events = subst (λ asked. AreEvents (stated_asked events 0 1 asked told_1.answer)) (sym acts_1) (record { before = []; later = event_2 ∷ []; parts = refl; numbered = refl }, tt);
}

pub states_2 : IsStated events named told_2
states_2 = record {
  numbers = ap (λ asked. own.numbers_of (stated_asked events 0 2 asked told_2.answer)) acts_2;
  events = subst (λ asked. AreEvents (stated_asked events 0 2 asked told_2.answer)) (sym acts_2) (record { before = event_1 ∷ []; later = []; parts = refl; numbered = refl }, tt);
}

states_3 : IsStated events named told_3
states_3 = record {
  numbers = ap (λ asked. own.numbers_of (stated_asked events 0 3 asked told_3.answer)) acts_read;
  events = subst (λ asked. AreEvents (stated_asked events 0 3 asked told_3.answer)) (sym acts_read) tt;
}

-- a session that stands so behind line 1, and the two lines left
rest_stated : (s : Standing) → named ≡ s → AreStated events s (told_2 ∷ told_3 ∷ [])
rest_stated s is =
    subst (λ (u : Standing). AreStated events u (told_2 ∷ told_3 ∷ [])) is
    (states_2, (subst (λ (u : Standing). IsStated events u told_3) (sym stands_2) states_3, tt))

stated : (b : Bool) → AreStated events first_standing (by b)
stated true = (states_1, rest_stated (standing_step events first_standing told_1) (sym stands_1))
stated false = tt

-- the history is legal
one_size : (n limit : ℕ) → n ≤ limit → (k : ℕ) → k < 1 → slice_index (n ∷ []) k ≤ limit
one_size n limit low zero is = low
one_size n limit low (suc k) is = absurd (omega (arith, is))

one_least : (n : ℕ) → 1 ≤ n → (k : ℕ) → k < 1 → 1 ≤ slice_index (n ∷ []) k
one_least n low zero is = low
one_least n low (suc k) is = absurd (omega (arith, is))

may_open : IsLegalOpening [] array
may_open = record {
  number = refl;
  alone = λ a. tt;
  placed = record { one_part = ((λ e. absurd (cc)), ((λ e. absurd (cc)), ((λ e. absurd (cc)), ((λ e. absurd (cc)), ((λ e. absurd (cc)), ((λ e. absurd (cc)), tt)))))); not_local = λ e. absurd (cc) };
  kept = record {
    valid = record {
      shape = record { rank = lit≤ tt; sizes = one_size 3 (2 ^ 62 - 2) (lit≤ tt) };
      ranks = refl;
      chunks = record { least = one_least 2 (lit≤ tt); greatest = one_size 2 (2 ^ 24) (lit≤ tt); volume = lit≤ tt };
      fill = λ x is. absurd (cc);
      one_byte = λ e. absurd (cc);
    };
    shape = refl;
    dtype = refl;
    fill = refl;
  };
}

pub legal_1 : IsLegal finmap.empty (event_1 ∷ [])
legal_1 = legal_more finmap.empty [] event_1 tt may_open

finite_cells : IsTrue (list_all is_finite (look_of whole).dims)
finite_cells = ap (λ (l : Look). list_all is_finite l.dims) look

held : (n : ℕ) → n ≤ 3 → Holds I32 (pos n)
held n low = record { from_least = omega (arith, ints); to_greatest = omega (arith, ints, low) }

word_1 : IsWord (look_of whole).dtype 1
word_1 = subst (λ (l : Look). IsWord l.dtype 1) (sym look) (record { in_64_bits = lit≤ tt; held = held 1 (lit≤ tt) })

word_2 : IsWord (look_of whole).dtype 2
word_2 = subst (λ (l : Look). IsWord l.dtype 2) (sym look) (record { in_64_bits = lit≤ tt; held = held 2 (lit≤ tt) })

word_3 : IsWord (look_of whole).dtype 3
word_3 = subst (λ (l : Look). IsWord l.dtype 3) (sym look) (record { in_64_bits = lit≤ tt; held = held 3 (lit≤ tt) })

legal_write : IsLegalDone finmap.empty (event_1 ∷ []) (Write whole (1 ∷ 2 ∷ 3 ∷ []) ∷ [])
legal_write = record {
  each = (
    record {
      finite = finite_cells;
      targets = subst (AllByRecursion (HasTarget (event_1 ∷ []))) (sym targets) (refl, (refl, (refl, tt)));
      count = ap length (sym targets);
      words = (word_1, (word_2, (word_3, tt)));
    },
    tt,
  );
  reads = tt;
}

pub legal : IsLegal finmap.empty events
legal = legal_more finmap.empty (event_1 ∷ []) event_2 legal_1 legal_write

claimed : IsClaimed told_all events
claimed = record { sessions = λ session. stated (0 == session); count = refl; legal = legal }

-- the answers
abbrev window : ℕ → ℕ → Window
window from upto = record { from = from; upto = upto }

opened_so : opened_body (codes "a") whole (1 ∷ []) ≡ body.opened (codes "a") I32 (array_domain reference) (1 ∷ [])
opened_so = ap (λ (l : Look). body.opened (codes "a") l.dtype (own_transform whole).domain (1 ∷ [])) look ∙ ap (λ (t : DomainAndMaps). body.opened (codes "a") I32 t.domain (1 ∷ [])) (own-Leaf reference through)

text_of_1 : told_1.text ≡ answer_text (printed_at 1 (body.opened (codes "a") I32 (array_domain reference) (1 ∷ [])))
unfolding domain_text events_text dtype_text numbers_text text_of digits serde_json_on_literals
text_of_1 = refl

object_of_1 : told_1.answer ≡ answer_data (printed_at 1 (body.opened (codes "a") I32 (array_domain reference) (1 ∷ [])))
object_of_1 = refl

abbrev meta_of : ZarrMeta
meta_of = record { shape = 3 ∷ []; chunks = 2 ∷ []; dtype = I32; big = false; fill = None; order = C; slash = false }

abbrev asked_leaf : Leaf
asked_leaf = record {
  mount = codes "memory";
  path = codes "a";
  want = want.Zarr (record { shape = Some (3 ∷ []); chunks = Some (2 ∷ []); dtype = Some I32; big = Some false; fill = None; order = None; slash = None });
  may_open = false;
  may_create = true;
}

settles : IsOutcome finmap.empty [] asked_leaf (made (form.Zarr meta_of))
settles = record { stored = nothing; read = λ none. finmap.get-empty _ (metadata_key_asked asked_leaf); same = refl }

answers_1 : IsFitting events (window 1 1) first_standing told_1
answers_1 = record {
  answer = opened_body (codes "a") whole (1 ∷ []);
  printed = text_of_1 ∙ ap (λ b. answer_text (printed_at 1 b)) (sym opened_so);
  object = object_of_1 ∙ ap (λ b. answer_data (printed_at 1 b)) (sym opened_so);
  may = subst (λ asked. IsAnswer events 0 (window 1 1) None 1 (1 ∷ []) asked (opened_body (codes "a") whole (1 ∷ []))) (sym acts_1)
      (open_answer (opened {refs = reference ∷ []} {view = whole} (record { settled = ((form.Zarr meta_of, settles), tt); arrays = refl }) builds));
}

text_of_2 : told_2.text ≡ answer_text (printed_at 2 (body.written 3 (2 ∷ [])))
unfolding numbers_text digits
text_of_2 = refl

object_of_2 : told_2.answer ≡ answer_data (printed_at 2 (body.written 3 (2 ∷ [])))
object_of_2 = refl

answers_2 : IsFitting events (window 1 1) named told_2
answers_2 = record {
  answer = body.written 3 (2 ∷ []);
  printed = text_of_2;
  object = object_of_2;
  may = subst (λ asked. IsAnswer events 0 (window 1 1) None 2 [] asked (body.written 3 (2 ∷ []))) (sym acts_2) (written 2);
}

pub values_of_whole : values_body whole None (1 ∷ 2 ∷ 3 ∷ []) ≡ body.values (pos 0 ∷ []) (3 ∷ []) I32 (1 ∷ 2 ∷ 3 ∷ [])
values_of_whole = simp look

text_of_3 : told_3.text ≡ answer_text (printed_at 3 (body.values (pos 0 ∷ []) (3 ∷ []) I32 (1 ∷ 2 ∷ 3 ∷ [])))
unfolding indices_text word_text digits
text_of_3 = refl

object_of_3 : told_3.answer ≡ answer_data (printed_at 3 (body.values (pos 0 ∷ []) (3 ∷ []) I32 (1 ∷ 2 ∷ 3 ∷ [])))
object_of_3 = refl

sees : map Some (1 ∷ 2 ∷ 3 ∷ []) ≡ visible_values finmap.empty events (λ c. 2) [] whole
sees = simp targets

answers_3 : IsFitting events (window 2 2) named told_3
answers_3 = record {
  answer = values_body whole None (1 ∷ 2 ∷ 3 ∷ []);
  printed = text_of_3 ∙ ap (λ b. answer_text (printed_at 3 b)) (sym values_of_whole);
  object = object_of_3 ∙ ap (λ b. answer_data (printed_at 3 b)) (sym values_of_whole);
  may = subst (λ asked. IsAnswer events 0 (window 2 2) None 3 [] asked (values_body whole None (1 ∷ 2 ∷ 3 ∷ []))) (sym acts_read)
      (read (record { marks = λ c. 2; within = λ c. (lit≤ tt, lit≤ tt); shown = sees }));
}

-- a session that stands so behind line 1, and the two lines left
rest_fits : (s : Standing) → named ≡ s → AreFitting events (told_1 ∷ []) s (told_2 ∷ told_3 ∷ [])
rest_fits s is =
    subst (λ (u : Standing). AreFitting events (told_1 ∷ []) u (told_2 ∷ told_3 ∷ [])) is
    (answers_2, (subst (λ (u : Standing). IsFitting events (window_of 2 u.transaction (told_1 ∷ told_2 ∷ []) told_3 []) u told_3) (sym stands_2) answers_3, tt))

fits : (b : Bool) → AreFitting events [] first_standing (by b)
fits true = (answers_1, rest_fits (standing_step events first_standing told_1) (sym stands_1))
fits false = tt

plain : ArePlain told_all
plain = (record { not_atomic = refl; damaged = refl; bad_meta = refl; shrunk = refl }, (record { not_atomic = refl; damaged = refl; bad_meta = refl; shrunk = refl }, (record { not_atomic = refl; damaged = refl; bad_meta = refl; shrunk = refl }, tt)))

-- the transcript fits, by two events
pub row_fits : Fits scripts transcript events
row_fits = record { told = told_all; cut = is_cut; fit = record { numbered = numbered; claimed = claimed; answered = λ session. fits (0 == session); plain = plain } }
