-- An array that is asked of a store.
use Rattle.history.specs.Leaves.{Leaf}
use Rattle.session_turns.specs.declared.asked.Asked.{Asked}

-- as the history speaks of it
abbrev pub asked_leaf : Asked → Leaf
asked_leaf asked = record { mount = asked.mount; path = asked.path; want = asked.want; may_open = asked.may_open; may_create = asked.may_create }
