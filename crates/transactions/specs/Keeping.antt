-- What a read keeps.
use Rattle.std.specs.Prelude.{◌≡◌, ◌≤◌, ◌+◌, ◌⊎◌, ℕ, List, [], ◌∷◌, ◌++◌, length, Option, Some, None, if◌then◌else◌}
use Rattle.std.specs.Str.{bytes_eq}
use Rattle.history.specs.declared.event.Op.TheVariants.{Read}
use Rattle.stack_driver.specs.declared.view.View.{View}
use Rattle.transactions.specs.Txn.{TxnSeen}
use Rattle.chunk_fetches.specs.Kept.{place_from}
use Rattle.chunk_fetches.specs.declared.kept.Kept.{Kept}

-- no chunk with this id is kept
abbrev pub IsUnkept : List Kept → Kept → Type 0
IsUnkept kept k = place_from 0 kept k.id ≡ None

-- none of these chunks is kept before, nor is one of them twice there
abbrev pub AreNewTo : List Kept → List Kept → Type 0
AreNewTo kept [] = Unit {0}
AreNewTo kept (k ∷ more) = IsUnkept kept k × AreNewTo (kept ++ k ∷ []) more

-- what a table tells of an id, once the ids of chunks have the places from this one on
abbrev pub placed : ℕ → List Kept → List ℕ → Option ℕ → Option ℕ
placed n [] id told = told
placed n (k ∷ more) id told = placed (n + 1) more id (if bytes_eq k.id id then Some n else told)

-- a table tells of an id what it told, or of one that no chunk has that is kept a place behind them
abbrev pub IsUnspoilt : List Kept → List ℕ → Option ℕ → Option ℕ → Type 0
IsUnspoilt kept id old new = (new ≡ old) ⊎ ((place : ℕ) × (length kept ≤ place) × (new ≡ Some place) × (place_from 0 kept id ≡ None))

-- under repeatable read the read joins the operations, and what it fetched is kept
abbrev pub with_read : TxnSeen → View → List ℕ → List Kept → TxnSeen
with_read t view words fetched = if t.mode.repeatable_read then record t { ops = t.ops ++ Read view words ∷ []; kept = t.kept ++ fetched } else t
