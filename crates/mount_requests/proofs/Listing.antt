-- Names that lists show, and names that are taken anew.
use Rattle.std.proofs.Common.{◌≡◌, ℕ, List, [], ◌∷◌, ◌++◌, Option, Some, None, Bool, true, false, cond, not, ◌||◌, refl, sym, ap, subst, ◌∙◌, append_assoc}
use Rattle.std.specs.Prelude.{Result, Ok, Err, IfErr, IfOk, OnErr, OnOk}
use Rattle.std.specs.List.{filter, list_any}
use Rattle.fuse.specs.Listed.{Listed}
use Rattle.fuse.specs.declared.errno.Errno.TheVariants.{ENOMEM}
use Rattle.fuse.specs.declared.reply.Reply.{Reply}
use Rattle.machine.specs.Shown.{Shown}
use Rattle.course.proofs.Runs.{done}
use Rattle.mount_tables.specs.Numbers.{is_reserved}
use Rattle.mount_requests.specs.Answers.{Answered, Refused}
use Rattle.mount_requests.specs.Failures.{error}
use Rattle.mount_requests.specs.Found.{folder_at, shown_names}
use Rattle.mount_requests.specs.Listed.{IsList, Lists}
use Rattle.mount_requests.specs.Requests.{ListsBy, kept_names, with_names}
use Rattle.mount_requests.specs.Seen.{Seen}
use Rattle.mount_requests.specs.declared.failure.Failure.{Failure}
use Rattle.mount_requests.specs.declared.reading.Directory.{Directory}
use Rattle.mount_requests.proofs.Answering.{told}

-- ---- names that lists show

by_bool : {A : Type 0} (b : Bool) (x : A) (ys : List A) → cond b (x ∷ []) [] ++ ys ≡ cond b (x ∷ ys) ys
by_bool true x ys = refl
by_bool false x ys = refl

-- one name more that lists show, if they do
pub shown_more : (node : ℕ) (name : List ℕ) (names so_far all : List (List ℕ)) → so_far ++ shown_names node (name ∷ names) ≡ all → (so_far ++ shown_names node (name ∷ [])) ++ shown_names node names ≡ all
shown_more node name names so_far all h = append_assoc so_far (shown_names node (name ∷ [])) (shown_names node names) ∙ ap (λ (n : List (List ℕ)). so_far ++ n) (by_bool (not (is_reserved node name)) name (shown_names node names)) ∙ h

-- a list of these names, which go by another name too
pub lists_as : (offset size : ℕ) (list : Listed) {names other : List (List ℕ)} → other ≡ names → IsList offset size other list → IsList offset size names list
lists_as offset size list e h = subst (λ (n : List (List ℕ)). IsList offset size n list) e h

-- where none of the names is reserved, lists show all of them
keeps : {A : Type 0} (is any : Bool) (x : A) (ys xs : List A) → (is || any) ≡ false → (any ≡ false → ys ≡ xs) → cond (not is) (x ∷ ys) ys ≡ x ∷ xs
keeps true any x ys xs h rest = absurd (not_both h)
  where
    not_both : true ≡ false → ⊥
    not_both e = cc
keeps false any x ys xs h rest = ap (λ l. x ∷ l) (rest h)

kept_all : (p : List ℕ → Bool) (names : List (List ℕ)) → list_any p names ≡ false → filter (λ name. not (p name)) names ≡ names
kept_all p [] h = refl
kept_all p (name ∷ names) h = keeps (p name) (list_any p names) name (filter (λ n. not (p n)) names) names h (kept_all p names)

pub all_shown : (node : ℕ) (names : List (List ℕ)) → list_any (λ name. is_reserved node name) names ≡ false → shown_names node names ≡ names
all_shown node names h = kept_all (is_reserved node) names h

-- ---- an open directory is listed

module _ (s later : Seen) (pid node handle offset size : ℕ) {plan : Result (Option Directory) Failure} {o : Option Directory} (is_planned : plan ≡ Ok o) where
  -- by names that are taken anew
  pub lists_anew : {d : Directory} {old new : Shown} {r : Result Reply Failure} → o ≡ Some d → ListsBy s later pid node handle offset size (Ok (Some d)) old new r → ListsBy s later pid node handle offset size plan old new r
  lists_anew {old = old} {new = new} {r = r} is h = subst (λ (z : Result (Option Directory) Failure). ListsBy s later pid node handle offset size z old new r) (sym (is_planned ∙ ap Ok is)) h

  -- or those that are kept
  pub lists_kept : {v : Shown} (r : Result Reply Failure) → o ≡ None → IfOk r (Lists offset size (kept_names (folder_at s handle))) → OnOk r (later ≡ with_names s node handle (kept_names (folder_at s handle))) → IfErr r (λ e. e ≡ error ENOMEM) → OnErr r (later ≡ s) → ListsBy s later pid node handle offset size plan v v r
  lists_kept (Ok reply) is shows known err none = Answered (told (is_planned ∙ ap Ok is) done (shows, known))
  lists_kept (Err e) is shows known err none = Answered (Refused refl none (ap Err err))
