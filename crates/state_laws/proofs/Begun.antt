-- A state without events agrees with its own opening.
use Rattle.std.proofs.Common.{ℕ, [], Option, Some, None, refl, arith}
use Rattle.std.specs.FinMap as finmap
use Rattle.std.proofs.lemmas.List.Elements.{All-nil}
use Rattle.kv_face.specs.Store.{Contents}
use Rattle.history.specs.Counting.{RoseBy}
use Rattle.history.specs.Store.{RepresentsHistory}
use Rattle.history.proofs.Laws.{generations_none, no_array}
use Rattle.state_laws.specs.Seen.{StoreSeen}
use Rattle.state_laws.specs.Log.{Log}
use Rattle.state_laws.specs.Kept.{IsKept, IsKeptNow}
use Rattle.state_laws.specs.Agreement.{Agrees}

begins_counted : (n : Option ℕ) → RoseBy 0 n n
begins_counted None = tt
begins_counted (Some n) = omega arith

begins_represented : (start : Contents) → RepresentsHistory start start []
begins_represented start = record {
  metadata = λ a k key has. absurd (no_array a k has.known);
  chunks = λ c k key is named. absurd (no_array c.array k is.known);
  others = λ key chunks metas. refl;
}

abbrev pub log_begun : ℕ → Log
log_begun limit = record { events = []; generations = finmap.empty; cache = record { limit = limit; entries = [] }; locals = [] }

pub agrees_begun : (store : StoreSeen) (limit : ℕ) → Agrees (record { store = store; limit = limit }) store (log_begun limit)
agrees_begun store limit = record {
  frame = record { faults = omega arith; counts = record { each = λ k. omega arith }; prefixes = refl; names = refl };
  faults = omega arith;
  told = λ rose. absurd (omega (arith, rose));
  limit = refl;
  count = refl;
  outline = tt;
  generations = generations_none;
  mounts = λ a k mount is on. absurd (no_array a k is);
  kept = All-nil (IsKept []);
  held = λ a k is local. absurd (no_array a k is);
  holds = λ start told. record {
    legal = tt;
    contents = start;
    told = told;
    represents = begins_represented start;
    counted = begins_counted store.changes;
    kept = All-nil (IsKeptNow start []);
    held = λ a k is local. absurd (no_array a k is);
  };
}
