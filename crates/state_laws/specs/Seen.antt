-- What is seen of a store, whatever its type.
use Rattle.std.specs.Prelude.{◌≡◌, ◌≤◌}
use Rattle.kv_face.specs.Store.{NoneFell}
pub use Rattle.kv_face.specs.Store.{StoreSeen}

-- what every call leaves as it was: which keys are taken and which go together; faults are never fewer, nor those of a store of which it is made
pub record IsFrame (old new : StoreSeen) : Type 0 where
  pub faults : old.faults ≤ new.faults
  pub counts : NoneFell old.counts new.counts
  pub prefixes : new.prefixes ≡ old.prefixes
  pub names : new.names ≡ old.names

-- nothing that counts was changed
pub record IsQuiet (old new : StoreSeen) : Type 0 where
  pub frame : IsFrame old new
  pub contents : new.contents ≡ old.contents
  pub changes : new.changes ≡ old.changes

-- what a call that reads alone leaves as it was
pub record IsRead (old new : StoreSeen) : Type 0 where
  pub frame : IsFrame old new
  pub contents : new.contents ≡ old.contents
  pub standing : new.standing ≡ old.standing
  pub changes : new.changes ≡ old.changes
