-- What a transaction's changes need of the committed state to be committed without memory: room for
-- each name that they add, and their new numbers.
use Rattle.std.specs.Prelude.{◌≡◌, ◌≢◌, ℕ, ◌+◌, ◌<◌, ◌≤◌, ◌==◌, ◌&&◌, not, Bool, true, false, List, []}
use Rattle.std.specs.Prelude.{◌∷◌, ◌++◌}
use Rattle.std.specs.Prelude.{length, replicate, Option, Some, None, is_some, if◌then◌else◌}
use Rattle.std.specs.Ordering.{nat_cmp}
use Rattle.std.specs.List.{AllByRecursion, count_by, flat_map, sum_by}
use Rattle.model.specs.FiniteMap.{FinMap, get}
use Rattle.model.specs.Changes.{Edit, Make_directory, news}
use Rattle.model.specs.Steps.{AllDifferent, IsNowhere}
use Rattle.model.specs.Moments.{is_in}
use Rattle.model.specs.Effects.{Effect}
use Rattle.freeing_laws.specs.Counts.{times}
use Rattle.shadow.specs.Committed.{Committed, Reserve}
use Rattle.notes.specs.Patches.{Net, Patches, is_new, net_at, opening_at}
use Rattle.notes.specs.Steps.{directories_in, files_in, opened_in, parents_in}
use Rattle.notes.specs.declared.change.InodeChange.{InodeChange}
use Rattle.notes.specs.declared.change.Made.{Made}
use Rattle.notes.specs.declared.change.Made.TheVariants.{Directory, File, Pipe, Fixed}
use Rattle.notes.specs.declared.opening.Opening.{Opening}

-- room for one more name in a directory, a number for a directory to come, or one for another object
pub data Claim : Type 0 where
  Room : ℕ → Claim
  New_directory : ℕ → Claim
  Number : ℕ → Claim

abbrev pub number_of : Claim → ℕ
number_of (Room d) = d
number_of (New_directory n) = n
number_of (Number n) = n

-- for each new number of an edit, in order, whether it is a directory's
abbrev pub kinds_in : Edit → List Bool
kinds_in (Make_directory d x i) = true ∷ []
kinds_in e = replicate (news e) false

-- new numbers with their kinds; one behind the last kind is of no directory
abbrev pub with_kinds : List ℕ → List Bool → List (ℕ × Bool)
with_kinds [] bs = []
with_kinds (n ∷ ns) [] = (n, false) ∷ with_kinds ns []
with_kinds (n ∷ ns) (b ∷ bs) = (n, b) ∷ with_kinds ns bs

abbrev pub numbers_in : Effect → List (ℕ × Bool)
numbers_in d = with_kinds d.chosen (flat_map kinds_in d.edits)

-- how often numbers with their kinds, and directories in which a name comes, make this claim
abbrev pub claimed_in : Claim → List (ℕ × Bool) → List ℕ → ℕ
claimed_in (Room r) ms parents = times r parents
claimed_in (New_directory n) ms parents = count_by (λ m. (m.0 == n) && m.1) ms
claimed_in (Number n) ms parents = count_by (λ m. (m.0 == n) && not m.1) ms

-- how often a change makes this claim, and how often changes do
abbrev pub claimed_by : Claim → Effect → ℕ
claimed_by c d = claimed_in c (numbers_in d) (flat_map parents_in d.edits)

-- how often one edit makes it, with the new numbers of its call
abbrev pub claimed_by_one : Claim → List ℕ → Edit → ℕ
claimed_by_one (Room r) chosen e = times r (parents_in e)
claimed_by_one (New_directory n) chosen e = times n (directories_in chosen e)
claimed_by_one (Number n) chosen e = times n (files_in chosen e ++ opened_in chosen e)

abbrev pub claimed : Claim → List Effect → ℕ
claimed c ds = sum_by (claimed_by c) ds

-- how often what a transaction keeps makes a claim
abbrev pub is_directory_made : Option Made → Bool
is_directory_made (Some Directory) = true
is_directory_made (Some File) = false
is_directory_made (Some Pipe) = false
is_directory_made (Some Fixed) = false
is_directory_made None = false

-- anything else
abbrev pub is_file_made : Option Made → Bool
is_file_made (Some File) = true
is_file_made (Some Pipe) = true
is_file_made (Some Fixed) = true
is_file_made (Some Directory) = false
is_file_made None = false

abbrev pub as_count : Bool → ℕ
as_count b = if b then 1 else 0

abbrev pub claim_in : Patches → Claim → ℕ
claim_in p (Room d) = (net_at p.inodes d).promised
claim_in p (New_directory n) = as_count (is_directory_made (net_at p.inodes n).made)
claim_in p (Number n) =
    as_count (is_file_made (net_at p.inodes n).made) + as_count (is_new (opening_at p.openings n))

-- whether a claim is for room in this directory, and whether it is this number's, as counts
abbrev pub room_in : ℕ → Claim → ℕ
room_in d (Room r) = as_count (d == r)
room_in d (New_directory n) = 0
room_in d (Number n) = 0

abbrev pub number_as : Bool → ℕ → Claim → ℕ
number_as directory n (Room r) = 0
number_as directory n (New_directory m) = as_count ((n == m) && directory)
number_as directory n (Number m) = as_count ((n == m) && not directory)

-- how often a claim can be met
abbrev pub or_zero : Option ℕ → ℕ
or_zero (Some count) = count
or_zero None = 0

abbrev pub room_of : Option Reserve → Option ℕ
room_of (Some r) = r.promised
room_of None = None

abbrev pub coming_directory : Option Reserve → ℕ
coming_directory (Some r) = as_count (r.coming && is_some r.promised)
coming_directory None = 0

abbrev pub coming_other : Option Reserve → ℕ
coming_other (Some r) = as_count (r.coming && not (is_some r.promised))
coming_other None = 0

abbrev pub reserved : Committed → Claim → ℕ
reserved s (Room d) = or_zero (room_of (get s.reserves d))
reserved s (New_directory n) = coming_directory (get s.reserves n)
reserved s (Number n) = coming_other (get s.reserves n)

-- all that these changes claim is there
abbrev pub Covers : Committed → List Effect → Type 0
Covers s ds = (c : Claim) → claimed c ds ≤ reserved s c

-- t keeps what s keeps, and this much besides
abbrev pub KeepsMore : Committed → Committed → (Claim → ℕ) → Type 0
KeepsMore s t more = (c : Claim) → reserved t c ≡ reserved s c + more c

-- t keeps what s keeps
abbrev pub KeepsSame : Committed → Committed → Type 0
KeepsSame s t = (c : Claim) → reserved t c ≡ reserved s c

-- nothing is kept
abbrev pub KeepsNothing : Committed → Type 0
KeepsNothing s = (c : Claim) → reserved s c ≡ 0

-- Numbers for what these edits make: as many as they need, all different, of no object, and of none
-- that a transaction has made or in which it needs room.
pub record AreUnused (s : Committed) (made : List Edit) (chosen : List ℕ) : Type 0 where
  pub count : length chosen ≡ sum_by news made
  pub unused : (c : Claim) → is_in (number_of c) chosen ≡ true → reserved s c ≡ 0
  pub different : AllDifferent chosen
  pub nowhere : AllByRecursion (IsNowhere s.state) chosen

-- a number of a directory that is there, or to come, or removed
abbrev pub IsDirectory : FinMap nat_cmp Reserve → ℕ → Type 0
IsDirectory reserves d = room_of (get reserves d) ≢ None

-- the directory to which an edit adds a name, if it adds one, is one of these
abbrev pub HasParent : FinMap nat_cmp Reserve → Edit → Type 0
HasParent reserves e = AllByRecursion (IsDirectory reserves) (parents_in e)

abbrev pub HaveParents : FinMap nat_cmp Reserve → List Edit → Type 0
HaveParents reserves = AllByRecursion (HasParent reserves)

-- a number that is to come, by its kind, and of whatever kind
abbrev pub new_number : Bool → ℕ → Claim
new_number true n = New_directory n
new_number false n = Number n

abbrev pub IsComing : Committed → ℕ → Type 0
IsComing s n = (directory : Bool) × (0 < reserved s (new_number directory n))

-- Numbers that are in use stay so, and those of directories too.
pub record Stays (s t : Committed) : Type 0 where
  pub used : (n : ℕ) → get t.reserves n ≡ None → get s.reserves n ≡ None
  pub directories : (n : ℕ) → IsDirectory s.reserves n → IsDirectory t.reserves n

-- A number that was not in use was added to a list, and is kept for a directory to come, or for
-- another object.
pub record IsReserved (directory : Bool) (s t : Committed) (old new : List ℕ) : Type 0 where
  pub num : ℕ
  pub list : new ≡ old ++ num ∷ []
  pub unused : get s.reserves num ≡ None
  pub nowhere : IsNowhere s.state num
  pub used : get t.reserves num ≢ None
  pub kept : KeepsMore s t (number_as directory num)
  pub stays : Stays s t

-- These new numbers for one edit were added to a list and are kept.
pub record IsClaimed (s t : Committed) (e : Edit) (old new : List ℕ) : Type 0 where
  pub mine : List ℕ
  pub list : new ≡ old ++ mine
  pub count : length mine ≡ news e
  pub unused : AllByRecursion (λ n. (get s.reserves n ≡ None) × IsNowhere s.state n) mine
  pub used : AllByRecursion (λ n. get t.reserves n ≢ None) mine
  pub different : AllDifferent mine
  pub kept : KeepsMore s t (λ c. claimed_in c (with_kinds mine (kinds_in e)) [])
  pub stays : Stays s t

-- Some numbers were added to a list, and are kept.
pub record AreAdded (s t : Committed) (old new : List ℕ) : Type 0 where
  pub mine : List ℕ
  pub kinds : List Bool
  pub list : new ≡ old ++ mine
  pub kept : KeepsMore s t (λ c. claimed_in c (with_kinds mine kinds) [])

-- The new numbers for these edits are kept.
pub record HaveClaimed (s t : Committed) (made : List Edit) (chosen : List ℕ) : Type 0 where
  pub state : t.state ≡ s.state
  pub count : length chosen ≡ sum_by news made
  pub unused : AllByRecursion (λ n. (get s.reserves n ≡ None) × IsNowhere s.state n) chosen
  pub used : AllByRecursion (λ n. get t.reserves n ≢ None) chosen
  pub different : AllDifferent chosen
  pub kept : KeepsMore s t (λ c. claimed_in c (with_kinds chosen (flat_map kinds_in made)) [])
  pub stays : Stays s t

-- how often the changes of one inode make a claim, those of all inodes, and those of descriptions
abbrev pub inode_claim : ℕ → Net → Claim → ℕ
inode_claim n net (Room d) = if n == d then net.promised else 0
inode_claim n net (New_directory m) =
    if n == m then as_count (is_directory_made net.made) else 0
inode_claim n net (Number m) = if n == m then as_count (is_file_made net.made) else 0

abbrev pub inodes_claim : List (ℕ × InodeChange) → Claim → ℕ
inodes_claim inodes (Room d) = (net_at inodes d).promised
inodes_claim inodes (New_directory n) = as_count (is_directory_made (net_at inodes n).made)
inodes_claim inodes (Number n) = as_count (is_file_made (net_at inodes n).made)

abbrev pub openings_claim : List (ℕ × Opening) → Claim → ℕ
openings_claim openings (Room d) = 0
openings_claim openings (New_directory n) = 0
openings_claim openings (Number n) = as_count (is_new (opening_at openings n))
