-- What a session has seen stays so in the whole history: keys, footprints, events.
use Rattle.std.proofs.Common.{◌≡◌, ℕ, zero, suc, List, [], ◌∷◌, ◌++◌, map, length, take, take-take, length-take, drop, Option, Some, None, refl, sym, ap, subst, ◌∙◌, append_assoc, arith}
use Rattle.std.specs.Prelude.{Contains, option_map}
use Rattle.std.specs.FinMap as finmap
use Rattle.std.proofs.lemmas.List.{take-append-drop}
use Rattle.stack_driver.specs.Targets.{Cell}
use Rattle.history.specs.Names.{chunk_name, metadata_name}
use Rattle.history.specs.declared.event.Event.{Event}
use Rattle.history.specs.declared.event.Op.{Op}
use Rattle.history.specs.History.{History}
use Rattle.history.specs.Arrays.{Known, known_after, chunk_shape, form_of}
use Rattle.history.specs.Chunks.{Chunk, chunk_index, chunk_in, chunk_of, key_in, key_of, home_text}
use Rattle.history.specs.Commit.{Key, Transaction, read_generation}
use Rattle.history.specs.Generations.{IsForeignChange}
use Rattle.history.specs.Legal.{IsLegal, AreReads}
use Rattle.history.specs.Reads.{Marks, mark_of, marked_world, footprint_of, first_reads}
use Rattle.history.specs.Refusals.{key_of_array, metadata_key_at}
use Rattle.history.specs.Staged.{AreWithin, IsTransaction}
use Rattle.history.specs.Touch.{generation_of}
use Rattle.history.proofs.Known.{none_is_none}
use Rattle.history.proofs.Conflicts.{itself}
use Rattle.history.proofs.GenerationTables.{as_opened}
use Rattle.history.proofs.Longer.{IsOpenedAs, known-longer, mark_of-within, seen-longer}
use Rattle.history.proofs.Untouched.{chunk_array}
use Rattle.serial_runs.specs.Numbered.{IsEvent}

module _ (history : History) (m : ℕ) (legal : IsLegal finmap.empty history) where
  abbrev now : History
  now = take m history

  abbrev behind : History
  behind = drop m history

  whole : now ++ behind ≡ history
  whole = take-append-drop m history

  whole_legal : IsLegal finmap.empty (now ++ behind)
  whole_legal = subst (IsLegal finmap.empty) (sym whole) legal

  -- an array stays where it was opened
  known_then : (a : ℕ) (k : Known) → known_after now a ≡ Some k → (l : Known) × (known_after history a ≡ Some l) × (l.info ≡ k.info) × (l.opened ≡ k.opened)
  known_then a k is =
      as_opened k.info k.opened (known_after history a)
      (subst (λ h. IsOpenedAs k.info k.opened (known_after h a)) whole (known-longer finmap.empty now a k.info k.opened (itself (known_after now a) k is) behind whole_legal))

  -- the key of a chunk stays
  pub key_later : (c : Chunk) (key : Key) → key_of now c ≡ Some key → key_of history c ≡ Some key
  key_later c key named = told (known_after now c.array) refl named
    where
      told : (o : Option Known) → known_after now c.array ≡ o → key_in o c ≡ Some key → key_of history c ≡ Some key
      told None e f = absurd (none_is_none key f)
      told (Some k) e f =
          let l = known_then c.array k e in
          ap (λ o. key_in o c) l.1 ∙ (λ i. Some (home_text (l.2 i).home (l.3 i) ++ chunk_name (form_of (l.2 i).home) c.index)) ∙ f

  -- so does that of an array's metadata
  pub metadata_later : (x : Cell) (key : Key) → metadata_key_at now x ≡ Some key → metadata_key_at history x ≡ Some key
  metadata_later x key named = told (known_after now x.array) refl named
    where
      told : (o : Option Known) → known_after now x.array ≡ o → key_of_array o ≡ Some key → metadata_key_at history x ≡ Some key
      told None e f = absurd (none_is_none key f)
      told (Some k) e f =
          let l = known_then x.array k e in
          ap key_of_array l.1 ∙ (λ i. option_map (λ name. home_text (l.2 i).home (l.3 i) ++ name) (metadata_name (form_of (l.2 i).home))) ∙ f

  same_chunk : (x : Cell) (c : Chunk) (k : Known) → known_after now c.array ≡ Some k → chunk_of now x ≡ c → chunk_of history x ≡ c
  same_chunk x c k known is =
      let number : x.array ≡ c.array = sym (chunk_array (known_after now x.array) x) ∙ ap (λ (d : Chunk). d.array) is in
      let there : known_after now x.array ≡ Some k = ap (known_after now) number ∙ known in
      let l = known_then x.array k there in
      ap (λ o. chunk_in o x) l.1 ∙ (λ i. record { array = x.array; index = chunk_index (chunk_shape (l.2 i)) x.index }) ∙ ap (λ o. chunk_in o x) (sym there) ∙ is

  among_later : (xs : List Cell) (c : Chunk) (k : Known) → known_after now c.array ≡ Some k → Contains (map (chunk_of now) xs) c → Contains (map (chunk_of history) xs) c
  among_later [] c k known (n, low, is) = absurd (omega arith)
  among_later (x ∷ xs) c k known (zero, low, is) = (zero, omega arith, same_chunk x c k known is)
  among_later (x ∷ xs) c k known (suc n, low, is) = let rest = among_later xs c k known (n, omega (arith, low), is) in (suc rest.0, (let l = rest.1 in omega (arith, l)), rest.2)

  -- a chunk that was read stays in the footprint
  pub footprint_later : (ops : List Op) (c : Chunk) (k : Known) → known_after now c.array ≡ Some k → Contains (footprint_of now ops) c → Contains (footprint_of history ops) c
  footprint_later ops c k known read = among_later (first_reads [] ops) c k known read

  -- what a transaction has read stands by its marks in the whole history
  pub reads_later : (t : Transaction) → IsTransaction finmap.empty now t → AreReads (marked_world finmap.empty history (mark_of t.marks)) [] t.ops
  reads_later t is = subst (λ h. AreReads (marked_world finmap.empty h (mark_of t.marks)) [] t.ops) whole (seen-longer finmap.empty now behind t.marks [] t.ops whole_legal is.within is.seen)

  -- so does the generation at a mark
  pub read_later : (marks : Marks) (c : Chunk) → AreWithin (length now) marks → read_generation now marks c ≡ read_generation history marks c
  read_later marks c within =
      let low = mark_of-within (length now) marks c within in
      ap (λ h. generation_of h c) (take-take (mark_of marks c) m history (omega (arith, low, length-take m history)))

  behind_of : (before later : History) (e : Event) → now ≡ before ++ e ∷ later → history ≡ before ++ e ∷ (later ++ behind)
  behind_of before later e parts = sym whole ∙ ap (λ h. h ++ behind) parts ∙ append_assoc before (e ∷ later) behind

  -- an event keeps its number
  pub event_later : (n : ℕ) (e : Event) → IsEvent now n e → IsEvent history n e
  event_later n e is = record { before = is.before; later = is.later ++ behind; parts = behind_of is.before is.later e is.parts; numbered = is.numbered }

  -- another session's change stays one
  pub foreign_later : (owner : ℕ) (c : Chunk) (read changed : ℕ) → IsForeignChange owner now c read changed → IsForeignChange owner history c read changed
  foreign_later owner c read changed is = record {
    touch = record { before = is.touch.before; event = is.touch.event; later = is.touch.later ++ behind; parts = behind_of is.touch.before is.touch.later is.touch.event is.touch.parts; number = is.touch.number; touched = is.touch.touched };
    change = is.change;
    later = is.later;
    foreign = is.foreign;
  }
