-- What a transaction changes in one pipe, and the pipe with the changes on top (TxOS, section 4:
-- shadow copies).
use Rattle.std.specs.Prelude.{ℕ, ◌+◌, ◌≤◌, List, ◌++◌, length, drop}

-- how many bytes are taken, and which are appended, some of which may be taken again
pub record PipeChanges : Type 0 where
  pub taken : ℕ
  pub appended : List ℕ

-- the view: a stable pipe with the changes on top
abbrev pub view_over : PipeChanges → List ℕ → List ℕ
view_over d stable = drop d.taken (stable ++ d.appended)

-- all that is taken was there
abbrev pub Reaches : PipeChanges → List ℕ → Type 0
Reaches d stable = d.taken ≤ length stable + length d.appended
