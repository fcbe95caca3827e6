-- What is kept of the processes: the rank of each, and what each has touched.
use Rattle.std.specs.Prelude.{ℕ, List, [], ◌∷◌, None, get_or}
use Rattle.ids.specs.declared.entry.Rank.{Rank}
use Rattle.model.specs.Steps.{Touch}
use Rattle.contention.specs.Contenders.{Contender}

-- a process in no transaction
abbrev pub idle_rank : ℕ → Rank
idle_rank priority = record { priority = priority; age = None }

-- a number that no process has
abbrev pub no_rank : Rank
no_rank = idle_rank 0

abbrev pub rank_at : List Rank → ℕ → Rank
rank_at ranks q = get_or ranks q no_rank

-- a process of this rank that has touched these
abbrev pub ranked : Rank → List Touch → Contender
ranked r ts = record { priority = r.priority; age = r.age; touches = ts }

-- each rank with its touches
abbrev pub ranked_list : List Rank → List (List Touch) → List Contender
ranked_list [] tss = []
ranked_list (r ∷ rs) [] = ranked r [] ∷ ranked_list rs []
ranked_list (r ∷ rs) (ts ∷ tss) = ranked r ts ∷ ranked_list rs tss
