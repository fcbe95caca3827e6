-- What patches take in of an edit of names.
use Rattle.std.proofs.Common.{◌≡◌, ◌≢◌, ℕ, ◌+◌, ◌-◌, ◌<◌, ◌≤◌, ◌==◌, ◌||◌, if◌then◌else◌, cond, true, false, List, [], ◌∷◌, ◌++◌, Option, Some, None, refl, sym, ap, ◌∙◌, subst, arith, eq-eqb, ne_eqb, inl, inr, append-nil}
use Rattle.std.proofs.lemmas.Bool.{cases_eq}
use Rattle.std.proofs.lemmas.List.Sums.{sum_by-cons}
use Rattle.model.specs.State.{Name, Inode}
use Rattle.model.specs.Changes.{Move, Swap, Name_file, Unname_file, Replaced, inode_replaced}
use Rattle.freeing_laws.specs.Counts.{named, times, unnamed}
use Rattle.notes.specs.declared.change.Contents.{Contents}
use Rattle.notes.specs.declared.change.Former.{Former}
use Rattle.notes.specs.declared.change.Made.{Made as What}
use Rattle.notes.specs.declared.change.Made.TheVariants.{Directory as A_directory, File as A_file, Pipe as A_pipe, Fixed as A_fixed}
use Rattle.notes.specs.declared.new_object.NewObject.{NewObject}
use Rattle.notes.specs.declared.new_object.NewObject.TheVariants.{Directory as New_directory, File as New_file, Fixed as New_fixed}
use Rattle.notes.specs.Patches.{AllReach, new_ends, Net, Patches, added_by, form_of, net_at, numbers_in, patched}
use Rattle.notes.specs.Notes.{AreNamed, AreSwapped, At, IsGivenOver, IsTakenBack, SameInodes, IsGiven, IsMade, IsNamed, IsUnnamed, room_for}
use Rattle.notes.specs.Steps.{TakesIn, made_at, made_form, made_of, making, named_at, listed_at, kept_beside, unnaming}
use Rattle.notes.proofs.InodeNotes.{Changes, counted_here, counted_elsewhere, as_written, Taken, no_ends, takes_first}

-- A new object with its name, of whatever kind.
record Making (what : NewObject) (d num : ℕ) (x : Name) (n : ℕ) (old new : Net) : Type 0 where
  contents : (o : Option Inode) → patched new.contents o ≡ made_at what d x num n (patched old.contents o)
  made : new.made ≡ cond (n == num) (Some (made_of what)) old.made
  promised : new.promised ≡ old.promised + times n (d ∷ [])
  named : new.named ≡ old.named + times n (num ∷ [])
  unnamed : new.unnamed ≡ old.unnamed
  form : form_of new.contents ≡ made_form what d num n (form_of old.contents)
  reach : (o : Option Inode) → AllReach old.contents o → AllReach new.contents o
  ends : (ends : ℕ × ℕ) → new_ends new.contents ≡ Some ends → new_ends old.contents ≡ Some ends
  added : added_by new.contents ≤ added_by old.contents + times n (d ∷ [])
  written : numbers_in new.contents ≡ (if (n == d) || (n == num) then [] else numbers_in old.contents)

making_parent : (what : NewObject) (d num : ℕ) (x : Name) (n : ℕ) (s t : Net) → n ≡ d → n ≢ num → IsNamed x (Some num) s t → Making what d num x n s t
making_parent what d num x n s t here away r =
    let yes : (n == d) ≡ true = eq-eqb n d here in
    let no : (n == num) ≡ false = ne_eqb n num away in
    let one : times n (d ∷ []) ≡ 1 = counted_here n d here in
    let none : times n (num ∷ []) ≡ 0 = counted_elsewhere n num away in
    let promised : t.promised ≡ s.promised + 1 = r.promised in
    let named : t.named ≡ s.named = ap (λ (net : Net). net.named) r.rest in
    let added : added_by t.contents ≤ added_by s.contents + 1 = r.added in
    record {
      contents = λ o. rw (yes, no) (r.contents o);
      made = rw no (ap (λ (net : Net). net.made) r.rest);
      promised = omega arith;
      named = omega arith;
      unnamed = ap (λ (net : Net). net.unnamed) r.rest;
      form = rw (yes, no) r.form;
      reach = λ o was. r.reach o;
      ends = λ ends is. no_ends t.contents r.ends ends is;
      added = omega arith;
      written = rw yes r.numbers;
    }

making_object : (what : NewObject) (d num : ℕ) (x : Name) (n : ℕ) (s t : Net) → n ≢ d → n ≡ num → IsMade what s t → Making what d num x n s t
making_object what d num x n s t away here r =
    let no : (n == d) ≡ false = ne_eqb n d away in
    let yes : (n == num) ≡ true = eq-eqb n num here in
    let none : times n (d ∷ []) ≡ 0 = counted_elsewhere n d away in
    let one : times n (num ∷ []) ≡ 1 = counted_here n num here in
    let promised : t.promised ≡ s.promised = ap (λ (net : Net). net.promised) r.rest in
    let named : t.named ≡ s.named + 1 = r.named in
    let added : added_by t.contents ≡ 0 = r.added in
    record {
      contents = λ o. rw (no, yes) (r.contents o);
      made = rw yes r.made;
      promised = omega arith;
      named = omega arith;
      unnamed = ap (λ (net : Net). net.unnamed) r.rest;
      form = rw (no, yes) r.form;
      reach = λ o was. r.reach o;
      ends = λ ends is. no_ends t.contents r.ends ends is;
      added = omega arith;
      written = rw (no, yes) r.numbers;
    }

making_other : (what : NewObject) (d num : ℕ) (x : Name) (n : ℕ) (s : Net) → n ≢ d → n ≢ num → Making what d num x n s s
making_other what d num x n s away apart =
    let no : (n == d) ≡ false = ne_eqb n d away in
    let not : (n == num) ≡ false = ne_eqb n num apart in
    let none : times n (d ∷ []) ≡ 0 = counted_elsewhere n d away in
    let nor : times n (num ∷ []) ≡ 0 = counted_elsewhere n num apart in
    record {
      contents = λ o. rw (no, not) refl;
      made = rw not refl;
      promised = omega arith;
      named = omega arith;
      unnamed = refl;
      form = rw (no, not) refl;
      reach = λ o was. was;
      ends = λ ends is. is;
      added = omega arith;
      written = rw (no, not) refl;
    }

making_each : (what : NewObject) (d num : ℕ) (x : Name) (s m t : Changes) → num ≢ d → At d (IsNamed x (Some num)) s m → At num (IsMade what) m t → (n : ℕ) → Making what d num x n (net_at s n) (net_at t n)
making_each what d num x s m t apart named made n = elim (cases_eq n d) [
  | inl here ↦
      let away : n ≢ num = λ e. apart (sym e ∙ here) in
      subst (λ net. Making what d num x n (net_at s n) net) (sym (made.others n away))
      (making_parent what d num x n (net_at s n) (net_at m n) here away (subst (λ k. IsNamed x (Some num) (net_at s k) (net_at m k)) (sym here) named.here))
  | inr away ↦ elim (cases_eq n num) [
    | inl here ↦ making_object what d num x n (net_at s n) (net_at t n) away here
        (subst (λ net. IsMade what net (net_at t n)) (named.others n away) (subst (λ k. IsMade what (net_at m k) (net_at t k)) (sym here) made.here))
    | inr apart ↦ subst (λ net. Making what d num x n (net_at s n) net) (sym (made.others n apart ∙ named.others n away)) (making_other what d num x n (net_at s n) away apart)
  ]
]

making_taken : (what : NewObject) (d num : ℕ) (x : Name) (n : ℕ) (s t : Net) → Making what d num x n s t → Taken (num ∷ []) (making what d x) n s t
making_taken New_directory d num x n s t r = let unnamed : t.unnamed ≡ s.unnamed = r.unnamed in record {
  contents = λ o can. r.contents o;
  reach = λ o can. r.reach o;
  ends = λ ends is. inl (r.ends ends is);
  made = r.made;
  promised = r.promised;
  named = r.named;
  unnamed = omega arith;
  form = r.form;
  added = r.added;
  written = λ b. as_written b (numbers_in t.contents) (if (n == d) || (n == num) then [] else numbers_in s.contents) r.written;
}
making_taken New_file d num x n s t r = let unnamed : t.unnamed ≡ s.unnamed = r.unnamed in record {
  contents = λ o can. r.contents o;
  reach = λ o can. r.reach o;
  ends = λ ends is. inl (r.ends ends is);
  made = r.made;
  promised = r.promised;
  named = r.named;
  unnamed = omega arith;
  form = r.form;
  added = r.added;
  written = λ b. as_written b (numbers_in t.contents) (if (n == d) || (n == num) then [] else numbers_in s.contents) r.written;
}
making_taken (New_fixed fixed) d num x n s t r = let unnamed : t.unnamed ≡ s.unnamed = r.unnamed in record {
  contents = λ o can. r.contents o;
  reach = λ o can. r.reach o;
  ends = λ ends is. inl (r.ends ends is);
  made = r.made;
  promised = r.promised;
  named = r.named;
  unnamed = omega arith;
  form = r.form;
  added = r.added;
  written = λ b. as_written b (numbers_in t.contents) (if (n == d) || (n == num) then [] else numbers_in s.contents) r.written;
}

pub making_takes : (what : NewObject) (d num : ℕ) (x : Name) (m : Changes) (old new : Patches) → num ≢ d → At d (IsNamed x (Some num)) old.inodes m → At num (IsMade what) m new.inodes
    → new.rights ≡ old.rights → new.openings ≡ old.openings → new.slots ≡ old.slots → new.unnamed_inodes ≡ old.unnamed_inodes → TakesIn (num ∷ []) (making what d x) old new
making_takes New_directory d num x m old new apart named made rights openings slots unnamed_inodes =
    takes_first (num ∷ []) (making New_directory d x) old new (λ n. making_taken New_directory d num x n (net_at old.inodes n) (net_at new.inodes n) (making_each New_directory d num x old.inodes m new.inodes apart named made n))
    rights openings slots (unnamed_inodes ∙ sym (append-nil old.unnamed_inodes)) (λ n o. refl) (λ d o. refl) (λ pid o. refl) refl
making_takes New_file d num x m old new apart named made rights openings slots unnamed_inodes =
    takes_first (num ∷ []) (making New_file d x) old new (λ n. making_taken New_file d num x n (net_at old.inodes n) (net_at new.inodes n) (making_each New_file d num x old.inodes m new.inodes apart named made n))
    rights openings slots (unnamed_inodes ∙ sym (append-nil old.unnamed_inodes)) (λ n o. refl) (λ d o. refl) (λ pid o. refl) refl
making_takes (New_fixed fixed) d num x m old new apart named made rights openings slots unnamed_inodes =
    takes_first (num ∷ []) (making (New_fixed fixed) d x) old new (λ n. making_taken (New_fixed fixed) d num x n (net_at old.inodes n) (net_at new.inodes n) (making_each (New_fixed fixed) d num x old.inodes m new.inodes apart named made n))
    rights openings slots (unnamed_inodes ∙ sym (append-nil old.unnamed_inodes)) (λ n o. refl) (λ d o. refl) (λ pid o. refl) refl

-- A name of a directory gives something else, or nothing: to the directory it adds a name where it gives something,
abbrev came : ℕ → Option ℕ → List ℕ
came d (Some m) = d ∷ []
came d None = []

record Naming (d : ℕ) (x : Name) (given : Option ℕ) (n : ℕ) (old new : Net) : Type 0 where
  contents : (o : Option Inode) → patched new.contents o ≡ named_at d x given n (patched old.contents o)
  form : form_of new.contents ≡ listed_at d n (form_of old.contents)
  reach : (o : Option Inode) → AllReach old.contents o → AllReach new.contents o
  ends : (ends : ℕ × ℕ) → new_ends new.contents ≡ Some ends → new_ends old.contents ≡ Some ends
  added : added_by new.contents ≤ added_by old.contents + times n (came d given)
  promised : new.promised ≡ old.promised + times n (came d given)
  numbers : numbers_in new.contents ≡ kept_beside d n (numbers_in old.contents)
  rest : record new { contents = old.contents; promised = old.promised } ≡ old

came_here : (d n : ℕ) (given : Option ℕ) → n ≡ d → times n (came d given) ≡ room_for given
came_here d n (Some m) here = counted_here n d here
came_here d n None here = refl

came_elsewhere : (d n : ℕ) (given : Option ℕ) → n ≢ d → times n (came d given) ≡ 0
came_elsewhere d n (Some m) away = counted_elsewhere n d away
came_elsewhere d n None away = refl

naming_at : (d : ℕ) (x : Name) (given : Option ℕ) (s m : Changes) → At d (IsNamed x given) s m → (n : ℕ) → Naming d x given n (net_at s n) (net_at m n)
naming_at d x given s m at n = elim (cases_eq n d) [
  | inl here ↦
      let yes : (n == d) ≡ true = eq-eqb n d here in
      let r : IsNamed x given (net_at s n) (net_at m n) = subst (λ k. IsNamed x given (net_at s k) (net_at m k)) (sym here) at.here in
      let added : added_by (net_at m n).contents ≤ added_by (net_at s n).contents + room_for given = r.added in
      let promised : (net_at m n).promised ≡ (net_at s n).promised + room_for given = r.promised in
      let many : times n (came d given) ≡ room_for given = came_here d n given here in
      record {
        contents = λ o. rw yes (r.contents o);
        form = rw yes r.form;
        reach = λ o was. r.reach o;
        ends = λ ends is. no_ends (net_at m n).contents r.ends ends is;
        added = omega arith;
        promised = omega arith;
        numbers = rw yes r.numbers;
        rest = r.rest;
      }
  | inr away ↦
      let no : (n == d) ≡ false = ne_eqb n d away in
      let none : times n (came d given) ≡ 0 = came_elsewhere d n given away in
      subst (λ net. Naming d x given n (net_at s n) net) (sym (at.others n away))
      (record {
        contents = λ o. rw no refl;
        form = rw no refl;
        reach = λ o was. was;
        ends = λ ends is. is;
        added = omega arith;
        promised = omega arith;
        numbers = rw no refl;
        rest = refl;
      })
]

-- the inode gets a name more,
record Gaining (num n : ℕ) (old new : Net) : Type 0 where
  named : new.named ≡ old.named + times n (num ∷ [])
  rest : record new { named = old.named } ≡ old

gaining_at : (num : ℕ) (m t : Changes) → At num IsGiven m t → (n : ℕ) → Gaining num n (net_at m n) (net_at t n)
gaining_at num m t at n = elim (cases_eq n num) [
  | inl here ↦
      let one : times n (num ∷ []) ≡ 1 = counted_here n num here in
      let r : IsGiven (net_at m n) (net_at t n) = subst (λ k. IsGiven (net_at m k) (net_at t k)) (sym here) at.here in
      let named : (net_at t n).named ≡ (net_at m n).named + 1 = r.named in
      record { named = omega arith; rest = r.rest }
  | inr away ↦
      let none : times n (num ∷ []) ≡ 0 = counted_elsewhere n num away in
      subst (λ net. Gaining num n (net_at m n) net) (sym (at.others n away)) (record { named = omega arith; rest = refl })
]

-- and these inodes lose one.
pub record Losing (nums : List ℕ) (n : ℕ) (old new : Net) : Type 0 where
  pub unnamed : new.unnamed ≡ old.unnamed + times n nums
  pub rest : record new { unnamed = old.unnamed } ≡ old

pub losing_at : (num : ℕ) (m t : Changes) → At num IsUnnamed m t → (n : ℕ) → Losing (num ∷ []) n (net_at m n) (net_at t n)
losing_at num m t at n = elim (cases_eq n num) [
  | inl here ↦
      let one : times n (num ∷ []) ≡ 1 = counted_here n num here in
      let r : IsUnnamed (net_at m n) (net_at t n) = subst (λ k. IsUnnamed (net_at m k) (net_at t k)) (sym here) at.here in
      let unnamed : (net_at t n).unnamed ≡ (net_at m n).unnamed + 1 = r.unnamed in
      record { unnamed = omega arith; rest = r.rest }
  | inr away ↦
      let none : times n (num ∷ []) ≡ 0 = counted_elsewhere n num away in
      subst (λ net. Losing (num ∷ []) n (net_at m n) net) (sym (at.others n away)) (record { unnamed = omega arith; rest = refl })
]

pub losing_none : (n : ℕ) (net : Net) → Losing [] n net net
losing_none n net = record { unnamed = omega arith; rest = refl }

linking_taken : (chosen : List ℕ) (d num : ℕ) (x : Name) (n : ℕ) (s m t : Net) → Naming d x (Some num) n s m → Gaining num n m t → Taken chosen (Name_file d x num) n s t
linking_taken chosen d num x n s m t g l =
    let contents : t.contents ≡ m.contents = ap (λ (net : Net). net.contents) l.rest in
    let first : m.promised ≡ s.promised + times n (d ∷ []) = g.promised in
    let later : t.promised ≡ m.promised = ap (λ (net : Net). net.promised) l.rest in
    let unnamed_first : m.unnamed ≡ s.unnamed = ap (λ (net : Net). net.unnamed) g.rest in
    let unnamed_then : t.unnamed ≡ m.unnamed = ap (λ (net : Net). net.unnamed) l.rest in
    let named : m.named ≡ s.named = ap (λ (net : Net). net.named) g.rest in
    let added_first : added_by m.contents ≤ added_by s.contents + times n (d ∷ []) = g.added in
    let added_then : added_by t.contents ≡ added_by m.contents = ap added_by contents in
    record {
      contents = λ o can. ap (λ w. patched w o) contents ∙ g.contents o;
      reach = λ o can was. subst (λ w. AllReach w o) (sym contents) (g.reach o was);
      ends = λ ends is. inl (g.ends ends (sym (ap new_ends contents) ∙ is));
      made = ap (λ (net : Net). net.made) l.rest ∙ ap (λ (net : Net). net.made) g.rest;
      promised = omega arith;
      named = l.named ∙ ap (λ u. u + times n (num ∷ [])) named;
      unnamed = omega arith;
      form = ap form_of contents ∙ g.form;
      added = omega arith;
      written = λ b. as_written b (numbers_in t.contents) (kept_beside d n (numbers_in s.contents)) (ap numbers_in contents ∙ g.numbers);
    }

pub linking_takes : (chosen : List ℕ) (d num : ℕ) (x : Name) (m : Changes) (old new : Patches) → At d (IsNamed x (Some num)) old.inodes m → At num IsGiven m new.inodes
    → new.rights ≡ old.rights → new.openings ≡ old.openings → new.slots ≡ old.slots → new.unnamed_inodes ≡ old.unnamed_inodes → TakesIn chosen (Name_file d x num) old new
linking_takes chosen d num x m old new named given rights openings slots unnamed_inodes =
    takes_first chosen (Name_file d x num) old new (λ n. linking_taken chosen d num x n (net_at old.inodes n) (net_at m n) (net_at new.inodes n) (naming_at d x (Some num) old.inodes m named n) (gaining_at num m new.inodes given n))
    rights openings slots (unnamed_inodes ∙ sym (append-nil old.unnamed_inodes)) (λ n o. refl) (λ d o. refl) (λ pid o. refl) refl

-- A name goes.
unnaming_taken : (what : What) (chosen : List ℕ) (d num : ℕ) (x : Name) (n : ℕ) (s m t : Net) → Naming d x None n s m → Losing (num ∷ []) n m t → Taken chosen (unnaming what d x num) n s t
unnaming_taken what chosen d num x n s m t g l = by_what what
  where
    contents : t.contents ≡ m.contents
    contents = ap (λ (net : Net). net.contents) l.rest

    promised : t.promised ≡ s.promised + 0
    promised = let first : m.promised ≡ s.promised + 0 = g.promised in let later : t.promised ≡ m.promised = ap (λ (net : Net). net.promised) l.rest in omega arith

    named_same : t.named ≡ s.named + 0
    named_same = let first : m.named ≡ s.named = ap (λ (net : Net). net.named) g.rest in let later : t.named ≡ m.named = ap (λ (net : Net). net.named) l.rest in omega arith

    unnamed_more : t.unnamed ≡ s.unnamed + times n (num ∷ [])
    unnamed_more = l.unnamed ∙ ap (λ u. u + times n (num ∷ [])) (ap (λ (net : Net). net.unnamed) g.rest)

    added : added_by t.contents ≤ added_by s.contents + 0
    added = let first : added_by m.contents ≤ added_by s.contents + 0 = g.added in let later : added_by t.contents ≡ added_by m.contents = ap added_by contents in omega arith

    as_file : Taken chosen (Unname_file d x num) n s t
    as_file = record {
      contents = λ o can. ap (λ w. patched w o) contents ∙ g.contents o;
      reach = λ o can was. subst (λ w. AllReach w o) (sym contents) (g.reach o was);
      ends = λ ends is. inl (g.ends ends (sym (ap new_ends contents) ∙ is));
      made = ap (λ (net : Net). net.made) l.rest ∙ ap (λ (net : Net). net.made) g.rest;
      promised = promised;
      named = named_same;
      unnamed = unnamed_more;
      form = ap form_of contents ∙ g.form;
      added = added;
      written = λ b. as_written b (numbers_in t.contents) (kept_beside d n (numbers_in s.contents)) (ap numbers_in contents ∙ g.numbers);
    }

    by_what : (what : What) → Taken chosen (unnaming what d x num) n s t
    by_what A_directory = record {
      contents = λ o can. ap (λ w. patched w o) contents ∙ g.contents o;
      reach = λ o can was. subst (λ w. AllReach w o) (sym contents) (g.reach o was);
      ends = λ ends is. inl (g.ends ends (sym (ap new_ends contents) ∙ is));
      made = ap (λ (net : Net). net.made) l.rest ∙ ap (λ (net : Net). net.made) g.rest;
      promised = promised;
      named = named_same;
      unnamed = unnamed_more;
      form = ap form_of contents ∙ g.form;
      added = added;
      written = λ b. as_written b (numbers_in t.contents) (kept_beside d n (numbers_in s.contents)) (ap numbers_in contents ∙ g.numbers);
    }
    by_what A_pipe = as_file
    by_what A_fixed = as_file
    by_what A_file = as_file

pub unnaming_takes : (what : What) (chosen : List ℕ) (d num : ℕ) (x : Name) (m : Changes) (old new : Patches) → At d (IsNamed x None) old.inodes m → At num IsUnnamed m new.inodes
    → new.rights ≡ old.rights → new.openings ≡ old.openings → new.slots ≡ old.slots → new.unnamed_inodes ≡ old.unnamed_inodes ++ (num ∷ []) → TakesIn chosen (unnaming what d x num) old new
unnaming_takes what chosen d num x m old new named unnamed rights openings slots unnamed_inodes = by_what what
  where
    each : (what : What) (n : ℕ) → Taken chosen (unnaming what d x num) n (net_at old.inodes n) (net_at new.inodes n)
    each what n = unnaming_taken what chosen d num x n (net_at old.inodes n) (net_at m n) (net_at new.inodes n) (naming_at d x None old.inodes m named n) (losing_at num m new.inodes unnamed n)

    as_file : TakesIn chosen (Unname_file d x num) old new
    as_file = takes_first chosen (unnaming A_file d x num) old new (each A_file) rights openings slots unnamed_inodes (λ n o. refl) (λ d o. refl) (λ pid o. refl) refl

    by_what : (what : What) → TakesIn chosen (unnaming what d x num) old new
    by_what A_directory = takes_first chosen (unnaming A_directory d x num) old new (each A_directory) rights openings slots unnamed_inodes (λ n o. refl) (λ d o. refl) (λ pid o. refl) refl
    by_what A_pipe = as_file
    by_what A_fixed = as_file
    by_what A_file = as_file

-- A name moves.
moving_taken : (chosen : List ℕ) (d : ℕ) (x : Name) (e : ℕ) (y : Name) (num : ℕ) (replaced : Replaced) (n : ℕ) (s a b t : Net) → Naming d x None n s a → Naming e y (Some num) n a b → Losing (inode_replaced replaced) n b t
    → Taken chosen (Move d x e y num replaced) n s t
moving_taken chosen d x e y num replaced n s a b t g h l =
    let contents : t.contents ≡ b.contents = ap (λ (net : Net). net.contents) l.rest in
    let promised_first : a.promised ≡ s.promised + 0 = g.promised in
    let promised_next : b.promised ≡ a.promised + times n (e ∷ []) = h.promised in
    let promised_last : t.promised ≡ b.promised = ap (λ (net : Net). net.promised) l.rest in
    let named_first : a.named ≡ s.named = ap (λ (net : Net). net.named) g.rest in
    let named_next : b.named ≡ a.named = ap (λ (net : Net). net.named) h.rest in
    let named_last : t.named ≡ b.named = ap (λ (net : Net). net.named) l.rest in
    let unnamed_same : b.unnamed ≡ s.unnamed = ap (λ (net : Net). net.unnamed) h.rest ∙ ap (λ (net : Net). net.unnamed) g.rest in
    let added_first : added_by a.contents ≤ added_by s.contents + 0 = g.added in
    let added_next : added_by b.contents ≤ added_by a.contents + times n (e ∷ []) = h.added in
    let added_last : added_by t.contents ≡ added_by b.contents = ap added_by contents in
    record {
      contents = λ o can. ap (λ w. patched w o) contents ∙ h.contents o ∙ ap (named_at e y (Some num) n) (g.contents o);
      reach = λ o can was. subst (λ w. AllReach w o) (sym contents) (h.reach o (g.reach o was));
      ends = λ ends is. inl (g.ends ends (h.ends ends (sym (ap new_ends contents) ∙ is)));
      made = ap (λ (net : Net). net.made) l.rest ∙ ap (λ (net : Net). net.made) h.rest ∙ ap (λ (net : Net). net.made) g.rest;
      promised = omega arith;
      named = omega arith;
      unnamed = l.unnamed ∙ ap (λ u. u + times n (inode_replaced replaced)) unnamed_same;
      form = ap form_of contents ∙ h.form ∙ ap (listed_at e n) g.form;
      added = omega arith;
      written = λ k. as_written k (numbers_in t.contents) (kept_beside e n (kept_beside d n (numbers_in s.contents))) (ap numbers_in contents ∙ h.numbers ∙ ap (kept_beside e n) g.numbers);
    }

pub moving_takes : (chosen : List ℕ) (d : ℕ) (x : Name) (e : ℕ) (y : Name) (num : ℕ) (replaced : Replaced) (m : Changes) (old new : Patches) → AreNamed d x e y num old.inodes m → ((n : ℕ) → Losing (inode_replaced replaced) n (net_at m n) (net_at new.inodes n))
    → new.rights ≡ old.rights → new.openings ≡ old.openings → new.slots ≡ old.slots → new.unnamed_inodes ≡ old.unnamed_inodes ++ inode_replaced replaced → TakesIn chosen (Move d x e y num replaced) old new
moving_takes chosen d x e y num replaced m old new moved loses rights openings slots unnamed_inodes =
    takes_first chosen (Move d x e y num replaced) old new (λ n. moving_taken chosen d x e y num replaced n (net_at old.inodes n) (net_at moved.mid n) (net_at m n) (net_at new.inodes n)
    (naming_at d x None old.inodes moved.mid moved.gone n) (naming_at e y (Some num) moved.mid m moved.come n) (loses n))
    rights openings slots unnamed_inodes (λ n o. refl) (λ d o. refl) (λ pid o. refl) refl

-- that a name moves takes no name from an inode
pub moved_count : (d : ℕ) (x : Name) (e : ℕ) (y : Name) (num : ℕ) (s t : Changes) → AreNamed d x e y num s t → (n : ℕ) → (net_at t n).unnamed ≡ (net_at s n).unnamed
moved_count d x e y num s t moved n =
    ap (λ (net : Net). net.unnamed) (naming_at e y (Some num) moved.mid t moved.come n).rest
    ∙ ap (λ (net : Net). net.unnamed) (naming_at d x None s moved.mid moved.gone n).rest

-- Two names change places.
two_times : (n d e : ℕ) → times n (d ∷ e ∷ []) ≡ times n (d ∷ []) + times n (e ∷ [])
two_times n d e =
    let both : times n (d ∷ e ∷ []) ≡ cond (d == n) 1 0 + times n (e ∷ []) = sum_by-cons (λ v. cond (v == n) 1 0) d (e ∷ []) in
    let one : times n (d ∷ []) ≡ cond (d == n) 1 0 + times n [] = sum_by-cons (λ v. cond (v == n) 1 0) d [] in
    let none : times n [] ≡ 0 = refl in omega arith

swapping_taken : (chosen : List ℕ) (d : ℕ) (x : Name) (num e : ℕ) (y : Name) (other n : ℕ) (s a t : Net) → Naming d x (Some other) n s a → Naming e y (Some num) n a t → Taken chosen (Swap d x num e y other) n s t
swapping_taken chosen d x num e y other n s a t g h =
    let promised_first : a.promised ≡ s.promised + times n (d ∷ []) = g.promised in
    let promised_next : t.promised ≡ a.promised + times n (e ∷ []) = h.promised in
    let both : times n (d ∷ e ∷ []) ≡ times n (d ∷ []) + times n (e ∷ []) = two_times n d e in
    let named_first : a.named ≡ s.named = ap (λ (net : Net). net.named) g.rest in
    let named_next : t.named ≡ a.named = ap (λ (net : Net). net.named) h.rest in
    let unnamed_first : a.unnamed ≡ s.unnamed = ap (λ (net : Net). net.unnamed) g.rest in
    let unnamed_next : t.unnamed ≡ a.unnamed = ap (λ (net : Net). net.unnamed) h.rest in
    let added_first : added_by a.contents ≤ added_by s.contents + times n (d ∷ []) = g.added in
    let added_next : added_by t.contents ≤ added_by a.contents + times n (e ∷ []) = h.added in
    record {
      contents = λ o can. h.contents o ∙ ap (named_at e y (Some num) n) (g.contents o);
      reach = λ o can was. h.reach o (g.reach o was);
      ends = λ ends is. inl (g.ends ends (h.ends ends is));
      made = ap (λ (net : Net). net.made) h.rest ∙ ap (λ (net : Net). net.made) g.rest;
      promised = omega arith;
      named = omega arith;
      unnamed = omega arith;
      form = h.form ∙ ap (listed_at e n) g.form;
      added = omega arith;
      written = λ k. as_written k (numbers_in t.contents) (kept_beside e n (kept_beside d n (numbers_in s.contents))) (h.numbers ∙ ap (kept_beside e n) g.numbers);
    }

pub swapping_takes : (chosen : List ℕ) (d : ℕ) (x : Name) (num e : ℕ) (y : Name) (other : ℕ) (old new : Patches) → AreSwapped d x num e y other old.inodes new.inodes
    → new.rights ≡ old.rights → new.openings ≡ old.openings → new.slots ≡ old.slots → new.unnamed_inodes ≡ old.unnamed_inodes → TakesIn chosen (Swap d x num e y other) old new
swapping_takes chosen d x num e y other old new swapped rights openings slots unnamed_inodes =
    takes_first chosen (Swap d x num e y other) old new (λ n. swapping_taken chosen d x num e y other n (net_at old.inodes n) (net_at swapped.mid n) (net_at new.inodes n)
    (naming_at d x (Some other) old.inodes swapped.mid swapped.first n) (naming_at e y (Some num) swapped.mid new.inodes swapped.second n))
    rights openings slots (unnamed_inodes ∙ sym (append-nil old.unnamed_inodes)) (λ n o. refl) (λ d o. refl) (λ pid o. refl) refl

-- a name that was given, and is taken back
given_and_taken : (x : Name) (n : ℕ) (former : Former) (s m t : Net) → IsGivenOver x n former s m → IsTakenBack x former m t → t ≡ s
given_and_taken x n former s m t g back =
    let promised : m.promised ≡ s.promised + 1 = g.named.promised in
    let less : m.promised - 1 ≡ s.promised = omega (arith, promised) in
    back
    ∙ ap (λ (w : Contents). record m { contents = w; promised = m.promised - 1 }) g.back
    ∙ ap (λ (r : ℕ). record m { contents = s.contents; promised = r }) less
    ∙ g.named.rest

pub swap_undone : (d : ℕ) (x : Name) (n : ℕ) (former : Former) (s a b t : Changes) → At d (IsGivenOver x n former) s a → SameInodes a b → At d (IsTakenBack x former) b t → SameInodes s t
swap_undone d x n former s a b t given same back = record {
  nets = each;
  places = λ q there. back.places q (same.places q (given.places q there));
}
  where
    each : (q : ℕ) → net_at t q ≡ net_at s q
    each q = elim (cases_eq q d) [
      | inl here ↦
          ap (net_at t) here
          ∙ given_and_taken x n former (net_at s d) (net_at a d) (net_at t d) given.here (subst (λ (net : Net). IsTakenBack x former net (net_at t d)) (same.nets d) back.here)
          ∙ sym (ap (net_at s) here)
      | inr away ↦ back.others q away ∙ same.nets q ∙ given.others q away
    ]

-- there is room to give up again
pub room_given : (d : ℕ) (x : Name) (n : ℕ) (former : Former) (s a b : Changes) → At d (IsGivenOver x n former) s a → SameInodes a b → 0 < (net_at b d).promised
room_given d x n former s a b given same =
    let promised : (net_at a d).promised ≡ (net_at s d).promised + 1 = given.here.named.promised in
    let still : (net_at b d).promised ≡ (net_at a d).promised = ap (λ (net : Net). net.promised) (same.nets d) in
    omega arith
