-- A table of generations, beside a history.
use Rattle.std.proofs.Common.{◌≡◌, ℕ, ◌+◌, ◌≤◌, length, List, [], ◌∷◌, ◌++◌, Bool, true, false, cond, Option, Some, None, inl, inr, refl, sym, ap, subst, ◌∙◌, arith, eqb-true}
use Rattle.std.specs.Prelude.{◌||◌, unwrap_or}
use Rattle.std.specs.FinMap as finmap
use Rattle.std.specs.FinMap.{get-empty, get-insert}
use Rattle.std.specs.List.{list_any}
use Rattle.std.specs.Str.{bytes_eq}
use Rattle.std.proofs.lemmas.Map.Text.{is_eq-slice_cmp}
use Rattle.std.specs.Ordering.{nat_cmp}
use Rattle.std.specs.Cmp.Lexicographic.{slice_cmp, nat_list_cmp_total}
use Rattle.chunk_forms.specs.Names as names
use Rattle.history.specs.declared.array.ArrayInfo.{ArrayInfo}
use Rattle.history.specs.declared.event.Event.{Event}
use Rattle.history.specs.declared.event.Kind.TheVariants.{Opened, Fault}
use Rattle.history.specs.History.{History}
use Rattle.history.specs.Arrays.{Known, known_after, form_of}
use Rattle.history.specs.Chunks.{Chunk, IsIndexOf, home_text, chunk_key, key_in}
use Rattle.history.specs.Touch.{touches, touches_by, generation_of}
use Rattle.history.specs.Generations.{HasKey, Generations, HasChangedKey, IsGenerationTable, IsKeyTouched, IsNumbered}
use Rattle.history.proofs.Known.{known_split, no_array, length-more, some_inj, opened_as}
use Rattle.history.proofs.Untouched.{generation_touched, generation_untouched}
use Rattle.history.proofs.Generations.{generation_of-le-length, generation_of-rises}
use Rattle.history.proofs.Longer.{IsOpenedAs, ArraysStay}
use Rattle.history.proofs.Conflicts.{itself, opening_touches}
use Rattle.history.proofs.Apart.{key_is}
use Rattle.history.proofs.Ordering.{IsAmong}
use Rattle.history.proofs.Tests.{true_or_false, less_or_not}
use Rattle.history.proofs.Touching.{opened_then}

-- an array that was opened before is the same one after an event more, in a new shape or not
older : (h : History) (e : Event) (a : ℕ) (k : Known) → known_after (h ++ e ∷ []) a ≡ Some k → k.opened ≤ length h → (l : Known) × (known_after h a ≡ Some l) × (l.info ≡ k.info) × (l.opened ≡ k.opened)
older h e a k is low = elim (known_split h e a k is) [
  | inl new ↦ let opened : k.opened ≡ length h + 1 = ap (λ (l : Known). l.opened) new.3 in absurd (omega arith)
  | inr (inl cut) ↦ (cut.0, cut.3, sym (ap (λ (l : Known). l.info) cut.4), sym (ap (λ (l : Known). l.opened) cut.4))
  | inr (inr old) ↦ (k, old, refl, refl)
]

pub as_opened : (i : ArrayInfo) (n : ℕ) (o : Option Known) → IsOpenedAs i n o → (k : Known) × (o ≡ Some k) × (k.info ≡ i) × (k.opened ≡ n)
unfolding IsOpenedAs
as_opened i n None opened = absurd opened
as_opened i n (Some k) opened = (k, refl, opened.0, opened.1)

-- no two chunks have one key
abbrev pub HasOneChunkAKey : History → Type 0
HasOneChunkAKey events = (c d : Chunk) (key : List ℕ) → HasKey events c key → HasKey events d key → c ≡ d

same_key : (k l : Known) (index : List ℕ) → k.info ≡ l.info → k.opened ≡ l.opened → chunk_key k index ≡ chunk_key l index
same_key k l index info opened =
    ap (λ (i : ArrayInfo). home_text i.home k.opened ++ names.chunk_name (form_of i.home) index) info ∙ ap (λ n. home_text l.info.home n ++ names.chunk_name (form_of l.info.home) index) opened

-- a key tells the chunk in each history that has its array with this opening
moved : (g h : History) (c : Chunk) (key : List ℕ) (has : HasKey g c key) (k : Known) → known_after h c.array ≡ Some k → k.info ≡ has.array.info → k.opened ≡ has.array.opened → HasKey h c key
moved g h c key has k is info opened = record {
  array = k;
  known = is;
  valid = subst (λ (i : ArrayInfo). IsIndexOf i c.index) (sym info) has.valid;
  named = ap (λ o. key_in o c) is ∙ ap Some (same_key k has.array c.index info opened ∙ key_is g c has.array key has.known has.named);
}

older_key : (h : History) (e : Event) (c : Chunk) (key : List ℕ) (has : HasKey (h ++ e ∷ []) c key) → has.array.opened ≤ length h → (old : HasKey h c key) × (old.array.opened ≡ has.array.opened)
unfolding moved
older_key h e c key has low = let l = older h e c.array has.array has.known low in (moved (h ++ e ∷ []) h c key has l.0 l.1 l.2 l.3, l.3)

newer_key : (h : History) (e : Event) (c : Chunk) (key : List ℕ) → ArraysStay h (h ++ e ∷ []) → (has : HasKey h c key) → (new : HasKey (h ++ e ∷ []) c key) × (new.array.opened ≡ has.array.opened)
unfolding moved
newer_key h e c key stay has =
    let l = has.array in
    let k = as_opened l.info l.opened (known_after (h ++ e ∷ []) c.array) (stay c.array l.info l.opened (itself (known_after h c.array) l has.known)) in
    (moved h (h ++ e ∷ []) c key has k.0 k.1 k.2 k.3, k.3)

-- no chunk is there at first
pub generations_none : IsGenerationTable [] finmap.empty
generations_none = record {
  changed = λ c key there. absurd (no_array c.array there.has.array there.has.known);
  others = λ key none. get-empty (slice_cmp nat_cmp) key;
}

-- one event more
module _ (h : History) (e : Event) (table next : Generations) (one : HasOneChunkAKey (h ++ e ∷ [])) (stay : ArraysStay h (h ++ e ∷ [])) (before : IsGenerationTable h table) (numbered : IsNumbered h e table next) where
  of_changed : (c : Chunk) (key : List ℕ) → HasChangedKey (h ++ e ∷ []) c key → finmap.get next key ≡ Some (generation_of (h ++ e ∷ []) c)
  of_changed c key there =
      let within = generation_of-le-length (h ++ e ∷ []) c in
      let more = length-more h e in
      let late = there.touched in
      let low : there.has.array.opened ≤ length h = omega arith in
      elim (true_or_false (touches h e c)) [
        | inl t ↦ numbered.touched c key (record { has = there.has; touched = t; opened = low }) ∙ ap Some (sym (generation_touched h e c t))
        | inr f ↦
            let alone : (d : Chunk) → ¬ IsKeyTouched h e d key =
            λ d it. let clash : true ≡ false = sym it.touched ∙ ap (touches h e) (one d c key it.has there.has) ∙ f in cc in
            let old = older_key h e c key there.has low in
            let same = generation_untouched h e c f in
            let opened = old.1 in
            numbered.others key alone ∙ before.changed c key (record { has = old.0; touched = omega arith }) ∙ ap Some (sym same)
      ]

  of_others : (key : List ℕ) → ((c : Chunk) → ¬ HasChangedKey (h ++ e ∷ []) c key) → finmap.get next key ≡ None
  of_others key none =
      numbered.others key (λ c it. let now = generation_touched h e c it.touched in let low = it.opened in none c (record { has = it.has; touched = omega arith }))
      ∙ before.others key (λ c there.
      let new = newer_key h e c key stay there.has in
      let opened = new.1 in
      let rises = generation_of-rises h c (e ∷ []) in
      let late = there.touched in
      none c (record { has = new.0; touched = omega arith }))

  pub generations_more : IsGenerationTable (h ++ e ∷ []) next
  generations_more = record { changed = of_changed; others = of_others }

-- an opening and a fault number no key
pub opening_numbers_none : (h : History) (e : Event) (info : ArrayInfo) (table : Generations) → e.kind ≡ Opened info → IsNumbered h e table table
opening_numbers_none h e info table kind = record {
  touched = λ c key it.
      let number : info.number ≡ c.array = eqb-true info.number c.array (ap (λ g. touches_by h g c) (sym kind) ∙ it.touched) in
      let new = some_inj it.has.array (opened_as h info) (sym it.has.known ∙ opened_then h e info c.array kind number) in
      let opened : it.has.array.opened ≡ length h + 1 = ap (λ (l : Known). l.opened) new in
      let low = it.opened in
      absurd (omega arith);
  others = λ key none. refl;
}

pub fault_numbers_none : (h : History) (e : Event) (mount : List ℕ) (table : Generations) → e.kind ≡ Fault mount → IsNumbered h e table table
fault_numbers_none h e mount table kind = record {
  touched = λ c key it. let clash : true ≡ false = sym it.touched ∙ ap (λ g. touches_by h g c) kind in absurd (cc);
  others = λ key none. refl;
}

-- a generation is what the table has at the chunk's key, else the number of its array's opening
pub generation_by_table : (events : History) (table : Generations) (c : Chunk) (key : List ℕ) → HasOneChunkAKey events → IsGenerationTable events table → (has : HasKey events c key)
    → generation_of events c ≡ unwrap_or (finmap.get table key) has.array.opened
generation_by_table events table c key one is has =
    elim (less_or_not has.array.opened (generation_of events c)) [
      | inl late ↦ ap (λ o. unwrap_or o has.array.opened) (sym (is.changed c key (record { has = has; touched = late })))
      | inr early ↦
          let low = opening_touches c events has.array has.known in
          let none : (d : Chunk) → ¬ HasChangedKey events d key =
          λ d there.
          let late = there.touched in
          let same = one c d key has there.has in
          let opened = one_opening events c d key has there.has same in
          let generation : generation_of events c ≡ generation_of events d = ap (generation_of events) same in
          omega arith in
          let opened : generation_of events c ≡ has.array.opened = omega arith in
          opened ∙ ap (λ o. unwrap_or o has.array.opened) (sym (is.others key none))
    ]
  where
    one_opening : (events : History) (c d : Chunk) (key : List ℕ) (has : HasKey events c key) (other : HasKey events d key) → c ≡ d → has.array.opened ≡ other.array.opened
    one_opening events c d key has other same =
        ap (λ (k : Known). k.opened) (some_inj has.array other.array (sym has.known ∙ ap (λ (c : Chunk). known_after events c.array) same ∙ other.known))

-- a table with one number at each of some keys
pub insert_all : ℕ → Generations → List (List ℕ) → Generations
insert_all n table [] = table
insert_all n table (key ∷ keys) = insert_all n (finmap.insert table key n) keys

either_number : (a b : Bool) (n : ℕ) (o : Option ℕ) → cond b (Some n) (cond a (Some n) o) ≡ cond (a || b) (Some n) o
either_number true true n o = refl
either_number true false n o = refl
either_number false b n o = refl

pub get-insert_all : (n : ℕ) (q : List ℕ) (keys : List (List ℕ)) (table : Generations) → finmap.get (insert_all n table keys) q ≡ cond (list_any (bytes_eq q) keys) (Some n) (finmap.get table q)
unfolding insert_all
get-insert_all n q [] table = refl
get-insert_all n q (key ∷ keys) table =
    get-insert_all n q keys (finmap.insert table key n)
    ∙ ap (cond (list_any (bytes_eq q) keys) (Some n)) (get-insert nat_list_cmp_total table key n q ∙ ap (λ b. cond b (Some n) (finmap.get table q)) (is_eq-slice_cmp q key))
    ∙ either_number (bytes_eq q key) (list_any (bytes_eq q) keys) n (finmap.get table q)

-- where these are exactly the keys that an event touches, they get its number
pub keys_numbered : (h : History) (e : Event) (table : Generations) (keys : List (List ℕ)) → ((c : Chunk) (key : List ℕ) → IsKeyTouched h e c key → IsAmong key keys)
    → ((key : List ℕ) → IsAmong key keys → (c : Chunk) × IsKeyTouched h e c key) → IsNumbered h e table (insert_all (length h + 1) table keys)
keys_numbered h e table keys all only = record {
  touched = λ c key it. get-insert_all (length h + 1) key keys table ∙ ap (λ b. cond b (Some (length h + 1)) (finmap.get table key)) (all c key it);
  others = λ key none.
      get-insert_all (length h + 1) key keys table
      ∙ elim (true_or_false (list_any (bytes_eq key) keys)) [
        | inl t ↦ let there = only key t in absurd (none there.0 there.1)
        | inr f ↦ ap (λ b. cond b (Some (length h + 1)) (finmap.get table key)) f
      ];
}
