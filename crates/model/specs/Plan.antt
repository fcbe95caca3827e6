-- A call's plan: it asks about the state, each question by the answers
-- before, and then gives a value or a refusal.
use Rattle.std.specs.Prelude.{ℕ, suc, ◌+◌, ◌-◌, ◌/◌, ◌++◌, List, [], ◌∷◌, Bool, true, false, map}
use Rattle.std.specs.Prelude.{Option, Some, None, Result, Ok, Err, nat_lt, if◌then◌else◌, length}
use Rattle.std.specs.Prelude.{take, drop, min, ⊤}
use Rattle.model.specs.FiniteMap.{keys}
pub use Rattle.model.specs.Limits.{capacity, block_length}
use Rattle.model.specs.Holes.{alike_from}
pub use Rattle.ids.specs.declared.errno.Errno.{Errno}
pub use Rattle.ids.specs.declared.errno.Errno.TheVariants.{EAGAIN, EBADF, EBUSY, EEXIST, EFBIG}
pub use Rattle.ids.specs.declared.errno.Errno.TheVariants.{EINVAL, EISDIR, ELOOP, EMFILE}
pub use Rattle.ids.specs.declared.errno.Errno.TheVariants.{ENAMETOOLONG, ENOENT, ENOTDIR, ENOTEMPTY}
pub use Rattle.ids.specs.declared.errno.Errno.TheVariants.{ENOTSUP, ENXIO, EPERM, EPIPE, ESPIPE}
use Rattle.model.specs.State.{Name, Kind, Kernel, names_of, file_of, pipe_of, target_of}
use Rattle.model.specs.State.{Rights as Rights_of_inode, rights_of, entry_of, offset_of, links, ends}
use Rattle.model.specs.Aspects.{Aspect, Entry, Names, Size, Block, Links, Ends, Offset, Front, Back}
use Rattle.model.specs.Aspects.{Target, Rights}

-- A question about the state. Its answer shows aspects: those are what a call that asks it reads.
pub data Question : Type 0 where
  Look : ℕ → Name → Question  -- what a name gives
  List_names : ℕ → Question
  Measure : ℕ → Question  -- a file's length
  Read_file : ℕ → ℕ → ℕ → Question  -- from a place, so many bytes at most
  Count_links : ℕ → Question
  Count_ends : ℕ → Question
  Find_offset : ℕ → Question
  Read_pipe : ℕ → ℕ → Question  -- so many bytes at most, from the front
  Fit : ℕ → ℕ → Question  -- how many of so many bytes fit into a pipe
  Read_target : ℕ → Question  -- a symbolic link's target
  Find_rights : ℕ → Question  -- an inode's permissions and owner
  Pass_blocks : Bool → ℕ → ℕ → ℕ → Question  -- how many blocks from one on, so many at most, are
      -- holes of a file, or are none

-- the type of a question's answer
abbrev pub Shown : Question → Type 0
Shown (Look d x) = Option (ℕ × Option Kind)
Shown (List_names d) = List Name
Shown (Measure n) = ℕ
Shown (Read_file n place count) = List ℕ
Shown (Count_links n) = ℕ
Shown (Count_ends p) = ℕ × ℕ
Shown (Find_offset d) = ℕ
Shown (Read_pipe p count) = List ℕ
Shown (Fit p count) = ℕ
Shown (Read_target n) = List ℕ
Shown (Find_rights n) = Rights_of_inode
Shown (Pass_blocks holes n first count) = ℕ

-- what the state answers
abbrev pub answer : Kernel → (q : Question) → Shown q
answer k (Look d x) = entry_of k d x
answer k (List_names d) = keys (names_of k d)
answer k (Measure n) = length (file_of k n)
answer k (Read_file n place count) = take count (drop place (file_of k n))
answer k (Count_links n) = links k n
answer k (Count_ends p) = (ends k p (λ d. d.reading), ends k p (λ d. d.writing))
answer k (Find_offset d) = offset_of k d
answer k (Read_pipe p count) = take count (pipe_of k p)
answer k (Fit p count) = min count (capacity - length (pipe_of k p))
answer k (Read_target n) = target_of k n
answer k (Find_rights n) = rights_of k n
answer k (Pass_blocks holes n first count) = alike_from holes (file_of k n) first count

-- first, first + 1, and so on
abbrev pub rising : ℕ → ℕ → List ℕ
rising first ℕ.zero = []
rising first (suc count) = first ∷ rising (suc first) count

-- the blocks of so many bytes from a place
abbrev pub blocks : ℕ → ℕ → List ℕ
blocks place ℕ.zero = []
blocks place (suc more) =
    rising (place / block_length) (suc ((place + more) / block_length - place / block_length))

-- the aspects that an answer shows
abbrev pub shown : (q : Question) → Shown q → List Aspect
shown (Look d x) a = Entry d x ∷ []
shown (List_names d) a = Names d ∷ []
shown (Measure n) a = Size n ∷ []
shown (Read_file n place count) bytes = Size n ∷ map (Block n) (blocks place (length bytes))
shown (Count_links n) a = Links n ∷ []
shown (Count_ends p) a = Ends p ∷ []
shown (Find_offset d) a = Offset d ∷ []
shown (Read_pipe p count) bytes =
    Front p ∷ (if nat_lt (length bytes) count then Back p ∷ [] else [])
shown (Fit p count) fitting = Back p ∷ (if nat_lt fitting count then Front p ∷ [] else [])
shown (Read_target n) target = Target n ∷ []
shown (Find_rights n) rights = Rights n ∷ []
-- those that were passed, and the one behind them
shown (Pass_blocks holes n first count) passed =
    map (Block n) (rising first (min count (suc passed)))

-- a plan gives a value, refuses, or asks and goes on by the answer
pub data Plan (A : Type 0) : Type 0 where
  Give : A → Plan A
  Refuse : Errno → Plan A
  Ask : (q : Question) → (Shown q → Plan A) → Plan A

infixl 10 ◌>>=◌
infixl 10 ◌>>◌
abbrev pub ◌>>=◌ : {A B : Type 0} → Plan A → (A → Plan B) → Plan B
(Give x) >>= f = f x
(Refuse e) >>= f = Refuse e
(Ask q next) >>= f = Ask q (λ a. next a >>= f)

abbrev pub ◌>>◌ : {A B : Type 0} → Plan A → Plan B → Plan B
m >> n = m >>= (λ _. n)

abbrev pub refuse_if : Bool → Errno → Plan ⊤
refuse_if true e = Refuse e
refuse_if false e = Give tt

abbrev pub or_refuse : {A : Type 0} → Errno → Option A → Plan A
or_refuse e (Some x) = Give x
or_refuse e None = Refuse e

abbrev pub ask : (q : Question) → Plan (Shown q)
ask q = Ask q Give

-- what a plan gives, and the aspects that it saw on the way, in order
abbrev pub given : {A : Type 0} → Kernel → Plan A → Result A Errno
given k (Give x) = Ok x
given k (Refuse e) = Err e
given k (Ask q next) = given k (next (answer k q))

abbrev pub seen : {A : Type 0} → Kernel → Plan A → List Aspect
seen k (Give x) = []
seen k (Refuse e) = []
seen k (Ask q next) = shown q (answer k q) ++ seen k (next (answer k q))
