-- Beginnings of histories, and the entries of one process.
use Rattle.std.specs.Prelude.{◌≡◌, ℕ, List, [], ◌++◌, ◌⊎◌, length}
use Rattle.model.specs.Entries.{Entry}
use Rattle.model.specs.Forgetting.{Limit}
use Rattle.model.specs.Moments.{Setup, after, after_from}
use Rattle.model.specs.Legal.{ListsRun, LegalFrom, Legal, mine, IsBefore}

-- Being a beginning is an order, and two beginnings of one history are each other's.
pub record BeforeIsAnOrder : Type 0 where
  pub itself : (es : List Entry) → IsBefore es es
  pub first : (es : List Entry) → IsBefore [] es
  pub through : (es fs gs : List Entry) → IsBefore es fs → IsBefore fs gs → IsBefore es gs
  pub both : (es fs : List Entry) → IsBefore es fs → IsBefore fs es → es ≡ fs
  pub either : (es fs gs : List Entry)
      → IsBefore es gs → IsBefore fs gs → IsBefore es fs ⊎ IsBefore fs es

-- A process's entries in a history that goes on are those before and those that came; those in
-- a beginning are a beginning of them.
pub record OwnEntriesFollow : Type 0 where
  pub append : (pid : ℕ) (es fs : List Entry) → mine pid (es ++ fs) ≡ mine pid es ++ mine pid fs
  pub before : (pid : ℕ) (es fs : List Entry) → IsBefore es fs
      → IsBefore (mine pid es) (mine pid fs)

-- The moments of a history that goes on, and its legality: it is legal where it was and goes on
-- rightly from what stood then.
pub record LegalityFollows : Type 0 where
  pub moments : (root : ℕ) (setup : Setup) (es fs : List Entry)
      → after root setup (es ++ fs) ≡ after_from (after root setup es) fs
  pub entries : (root : ℕ) (setup : Setup) (es : List Entry)
      → (after root setup es).entries ≡ length es
  pub runs : (root : ℕ) (setup : Setup) (limit : Limit) (es : List Entry)
      → Legal root setup limit es → ListsRun (after root setup es)
  pub nothing : (root : ℕ) (setup : Setup) (limit : Limit) → Legal root setup limit []
  pub rest : (root : ℕ) (setup : Setup) (limit : Limit) (es fs : List Entry)
      → Legal root setup limit (es ++ fs) → LegalFrom limit (after root setup es) fs
  pub joined : (root : ℕ) (setup : Setup) (limit : Limit) (es fs : List Entry)
      → Legal root setup limit es → LegalFrom limit (after root setup es) fs
      → Legal root setup limit (es ++ fs)
