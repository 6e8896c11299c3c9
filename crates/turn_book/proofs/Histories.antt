-- Laws of histories, for those who add to one in a turn.
use Rattle.std.proofs.Common.{◌≡◌, ◌≢◌, ℕ, eqb, eq-eqb, List, [], ◌∷◌, ◌++◌, refl, ap, ◌∙◌, sym, append_assoc, append-nil}
use Rattle.std.proofs.lemmas.List.Elements.{filter-append, recursion_from_All, All-from_recursion}
use Rattle.std.specs.List.{AllByRecursion}
use Rattle.turn_book.specs.History.{entries_of, Continues}
use Rattle.turn_book.proofs.Lists.{each_append, same_entries}

module _ {E : Type 0} (owner : E → ℕ) (number : ℕ) where
  -- a history continues itself
  pub continues_itself : (history : List E) → Continues owner number history history
  continues_itself history = ([], sym (append-nil history), All-from_recursion (λ e. owner e ≡ number) [] tt)

  -- a history that continues one which continues a first continues the first
  pub continues_further : (a b c : List E) → Continues owner number a b → Continues owner number b c → Continues owner number a c
  continues_further a b c first second = (
    first.0 ++ second.0,
    second.1 ∙ (ap (λ h. h ++ second.0) first.1 ∙ append_assoc a first.0 second.0),
    All-from_recursion (λ e. owner e ≡ number) (first.0 ++ second.0)
        (each_append (λ e. owner e ≡ number) first.0 second.0 (recursion_from_All (λ e. owner e ≡ number) first.0 first.2) (recursion_from_All (λ e. owner e ≡ number) second.0 second.2)),
  )

  -- one entry more
  pub continues_by : (history : List E) (e : E) → owner e ≡ number → Continues owner number history (history ++ e ∷ [])
  continues_by history e own = (e ∷ [], refl, All-from_recursion (λ x. owner x ≡ number) (e ∷ []) (own, tt))

  own_entries : (es : List E) → AllByRecursion (λ e. owner e ≡ number) es → entries_of owner number es ≡ es
  own_entries [] own = refl
  own_entries (e ∷ es) own = rw (eq-eqb (owner e) number own.0) (ap (λ l. e ∷ l) (own_entries es own.1))

  -- the owner's entries are those before, and those that were added
  pub entries_of-continued : (old new : List E) (more : Continues owner number old new) → entries_of owner number new ≡ entries_of owner number old ++ more.0
  entries_of-continued old new more =
      ap (entries_of owner number) more.1
      ∙ (filter-append (λ e. eqb (owner e) number) old more.0 ∙ ap (λ l. entries_of owner number old ++ l) (own_entries more.0 (recursion_from_All (λ e. owner e ≡ number) more.0 more.2)))

  -- another owner's entries stay as they were
  pub entries_of-others : (other : ℕ) → other ≢ number → (old new : List E) → Continues owner number old new → entries_of owner other new ≡ entries_of owner other old
  entries_of-others other apart old new more =
      ap (entries_of owner other) more.1 ∙ same_entries owner other number apart old more.0 (recursion_from_All (λ e. owner e ≡ number) more.0 more.2)
