-- What patches take in of an edit does not hang on numbers of the call that the edit does not use.
use Rattle.std.proofs.Common.{◌≡◌, ℕ, List, [], ◌∷◌, sym, subst}
use Rattle.model.specs.State.{Fixed_content, Name}
use Rattle.model.specs.Changes.{Append, Cut, Make_directory, Make_file, Make_fixed, Make_pipe, Put_bytes, Take, Wipe}
use Rattle.notes.specs.Patches.{Patches}
use Rattle.notes.specs.Steps.{TakesIn, new_in}

module _ (chosen : List ℕ) (p q : Patches) where
  directory_taken_by : (d : ℕ) (x : Name) → TakesIn (new_in chosen 0 ∷ []) (Make_directory d x 0) p q → TakesIn chosen (Make_directory d x 0) p q
  directory_taken_by d x t = record {
    inodes = t.inodes;
    reach = t.reach;
    pipes = t.pipes;
    rights = t.rights;
    descriptions = t.descriptions;
    processes = t.processes;
    made = t.made;
    promised = t.promised;
    named = t.named;
    unnamed = t.unnamed;
    unnamed_inodes = t.unnamed_inodes;
    forms = t.forms;
    added = t.added;
    news = t.news;
    written = t.written;
  }

  pub directory_taken : (d num i : ℕ) (x : Name) → i ≡ 0 → num ≡ new_in chosen 0 → TakesIn (num ∷ []) (Make_directory d x 0) p q → TakesIn chosen (Make_directory d x i) p q
  directory_taken d num i x first is t = subst (λ j. TakesIn chosen (Make_directory d x j) p q) (sym first) (directory_taken_by d x (subst (λ n. TakesIn (n ∷ []) (Make_directory d x 0) p q) is t))

  file_taken_by : (d : ℕ) (x : Name) → TakesIn (new_in chosen 0 ∷ []) (Make_file d x 0) p q → TakesIn chosen (Make_file d x 0) p q
  file_taken_by d x t = record {
    inodes = t.inodes;
    reach = t.reach;
    pipes = t.pipes;
    rights = t.rights;
    descriptions = t.descriptions;
    processes = t.processes;
    made = t.made;
    promised = t.promised;
    named = t.named;
    unnamed = t.unnamed;
    unnamed_inodes = t.unnamed_inodes;
    forms = t.forms;
    added = t.added;
    news = t.news;
    written = t.written;
  }

  pub file_taken : (d num i : ℕ) (x : Name) → i ≡ 0 → num ≡ new_in chosen 0 → TakesIn (num ∷ []) (Make_file d x 0) p q → TakesIn chosen (Make_file d x i) p q
  file_taken d num i x first is t = subst (λ j. TakesIn chosen (Make_file d x j) p q) (sym first) (file_taken_by d x (subst (λ n. TakesIn (n ∷ []) (Make_file d x 0) p q) is t))

  fixed_taken_by : (d : ℕ) (x : Name) (fixed : Fixed_content) → TakesIn (new_in chosen 0 ∷ []) (Make_fixed d x fixed 0) p q → TakesIn chosen (Make_fixed d x fixed 0) p q
  fixed_taken_by d x fixed t = record {
    inodes = t.inodes;
    reach = t.reach;
    pipes = t.pipes;
    rights = t.rights;
    descriptions = t.descriptions;
    processes = t.processes;
    made = t.made;
    promised = t.promised;
    named = t.named;
    unnamed = t.unnamed;
    unnamed_inodes = t.unnamed_inodes;
    forms = t.forms;
    added = t.added;
    news = t.news;
    written = t.written;
  }

  pub fixed_taken : (d num i : ℕ) (x : Name) (fixed : Fixed_content) → i ≡ 0 → num ≡ new_in chosen 0 → TakesIn (num ∷ []) (Make_fixed d x fixed 0) p q → TakesIn chosen (Make_fixed d x fixed i) p q
  fixed_taken d num i x fixed first is t = subst (λ j. TakesIn chosen (Make_fixed d x fixed j) p q) (sym first) (fixed_taken_by d x fixed (subst (λ n. TakesIn (n ∷ []) (Make_fixed d x fixed 0) p q) is t))

  pub put_taken : (n place : ℕ) (bytes : List ℕ) (before : ℕ) → TakesIn [] (Put_bytes n place bytes before) p q → TakesIn chosen (Put_bytes n place bytes before) p q
  put_taken n place bytes before t = record {
    inodes = t.inodes;
    reach = t.reach;
    pipes = t.pipes;
    rights = t.rights;
    descriptions = t.descriptions;
    processes = t.processes;
    made = t.made;
    promised = t.promised;
    named = t.named;
    unnamed = t.unnamed;
    unnamed_inodes = t.unnamed_inodes;
    forms = t.forms;
    added = t.added;
    news = t.news;
    written = t.written;
  }

  pub cut_taken : (n before after : ℕ) → TakesIn [] (Cut n before after) p q → TakesIn chosen (Cut n before after) p q
  cut_taken n before after t = record {
    inodes = t.inodes;
    reach = t.reach;
    pipes = t.pipes;
    rights = t.rights;
    descriptions = t.descriptions;
    processes = t.processes;
    made = t.made;
    promised = t.promised;
    named = t.named;
    unnamed = t.unnamed;
    unnamed_inodes = t.unnamed_inodes;
    forms = t.forms;
    added = t.added;
    news = t.news;
    written = t.written;
  }

  pub wiped_taken : (n place count : ℕ) → TakesIn [] (Wipe n place count) p q → TakesIn chosen (Wipe n place count) p q
  wiped_taken n place count t = record {
    inodes = t.inodes;
    reach = t.reach;
    pipes = t.pipes;
    rights = t.rights;
    descriptions = t.descriptions;
    processes = t.processes;
    made = t.made;
    promised = t.promised;
    named = t.named;
    unnamed = t.unnamed;
    unnamed_inodes = t.unnamed_inodes;
    forms = t.forms;
    added = t.added;
    news = t.news;
    written = t.written;
  }

  pub take_taken : (n count : ℕ) → TakesIn [] (Take n count) p q → TakesIn chosen (Take n count) p q
  take_taken n count t = record {
    inodes = t.inodes;
    reach = t.reach;
    pipes = t.pipes;
    rights = t.rights;
    descriptions = t.descriptions;
    processes = t.processes;
    made = t.made;
    promised = t.promised;
    named = t.named;
    unnamed = t.unnamed;
    unnamed_inodes = t.unnamed_inodes;
    forms = t.forms;
    added = t.added;
    news = t.news;
    written = t.written;
  }

  pub append_taken : (n : ℕ) (bytes : List ℕ) → TakesIn [] (Append n bytes) p q → TakesIn chosen (Append n bytes) p q
  append_taken n bytes t = record {
    inodes = t.inodes;
    reach = t.reach;
    pipes = t.pipes;
    rights = t.rights;
    descriptions = t.descriptions;
    processes = t.processes;
    made = t.made;
    promised = t.promised;
    named = t.named;
    unnamed = t.unnamed;
    unnamed_inodes = t.unnamed_inodes;
    forms = t.forms;
    added = t.added;
    news = t.news;
    written = t.written;
  }

  pipe_taken_by : (pid f g : ℕ) → TakesIn (new_in chosen 0 ∷ new_in chosen 1 ∷ new_in chosen 2 ∷ []) (Make_pipe 0 pid f g) p q → TakesIn chosen (Make_pipe 0 pid f g) p q
  pipe_taken_by pid f g t = record {
    inodes = t.inodes;
    reach = t.reach;
    pipes = t.pipes;
    rights = t.rights;
    descriptions = t.descriptions;
    processes = t.processes;
    made = t.made;
    promised = t.promised;
    named = t.named;
    unnamed = t.unnamed;
    unnamed_inodes = t.unnamed_inodes;
    forms = t.forms;
    added = t.added;
    news = t.news;
    written = t.written;
  }

  pub pipe_taken : (a b c i pid f g : ℕ) → i ≡ 0 → a ≡ new_in chosen 0 → b ≡ new_in chosen 1 → c ≡ new_in chosen 2 → TakesIn (a ∷ b ∷ c ∷ []) (Make_pipe 0 pid f g) p q → TakesIn chosen (Make_pipe i pid f g) p q
  pipe_taken a b c i pid f g first is next last t =
      subst (λ j. TakesIn chosen (Make_pipe j pid f g) p q) (sym first) (pipe_taken_by pid f g
      (subst (λ x. TakesIn (new_in chosen 0 ∷ new_in chosen 1 ∷ x ∷ []) (Make_pipe 0 pid f g) p q) last
      (subst (λ x. TakesIn (new_in chosen 0 ∷ x ∷ c ∷ []) (Make_pipe 0 pid f g) p q) next
      (subst (λ x. TakesIn (x ∷ b ∷ c ∷ []) (Make_pipe 0 pid f g) p q) is t))))
