-- What is counted in each object.
use Rattle.std.specs.Prelude.{◌≡◌, ℕ, ◌==◌, Bool, true, false, cond, Option, None, Some}
use Rattle.std.specs.List.{count_by, sum_by}
use Rattle.std.specs.Option.{unwrap_or}
use Rattle.std.specs.Ordering.{nat_cmp}
use Rattle.model.specs.FiniteMap.{FinMap, get, values}
use Rattle.model.specs.State.{Inode, Description, name_cmp, names_of_inode}

-- how many names of an inode give n
abbrev pub given_by : ℕ → Inode → ℕ
given_by n inode = count_by (λ m. m == n) (values (names_of_inode (Some inode)))

-- whether a description is open to write, or to read
abbrev pub is_open : Bool → Description → Bool
is_open true d = d.writing
is_open false d = d.reading

-- how often names give n
abbrev pub times_given : ℕ → FinMap name_cmp ℕ → ℕ
times_given n names = count_by (λ m. m == n) (values names)

-- how often one name gives n, where it gave this before
abbrev pub given_once : ℕ → Option ℕ → ℕ
given_once n None = 0
given_once n (Some m) = cond (m == n) 1 0

-- how many names of all these inodes give n
abbrev pub given_by_all : FinMap nat_cmp Inode → ℕ → ℕ
given_by_all inodes n = sum_by (given_by n) (values inodes)

-- how many of these descriptions are open on n
abbrev pub opened_by_all : FinMap nat_cmp Description → ℕ → ℕ
opened_by_all descriptions n = count_by (λ d. d.inode == n) (values descriptions)

-- how often one description is open on n, if there is one
abbrev pub opened_once : ℕ → Option Description → ℕ
opened_once n None = 0
opened_once n (Some d) = cond (d.inode == n) 1 0

-- what is counted of n, where what is not there counts 0
abbrev pub count_at : FinMap nat_cmp ℕ → ℕ → ℕ
count_at counts n = unwrap_or (get counts n) 0

-- the counts are those of the names that give each number
abbrev pub AreCounted : FinMap nat_cmp Inode → FinMap nat_cmp ℕ → Type 0
AreCounted inodes counts = (n : ℕ) → count_at counts n ≡ given_by_all inodes n

-- the counts are those of the descriptions that are open on each inode
abbrev pub AreOpened : FinMap nat_cmp Description → FinMap nat_cmp ℕ → Type 0
AreOpened descriptions counts = (n : ℕ) → count_at counts n ≡ opened_by_all descriptions n
