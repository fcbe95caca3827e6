-- What patches take in of an edit when changes of inodes are noted.
use Rattle.std.proofs.Common.{◌≡◌, ◌≢◌, ℕ, ◌+◌, ◌≤◌, ◌==◌, ◌||◌, ◌↔◌, cond, List, [], ◌∷◌, ◌++◌, Option, Some, None, refl, sym, ap, ◌∙◌, ◌⊎◌, subst, arith, eq-eqb, ne_eqb, append-nil}
use Rattle.std.proofs.lemmas.List.Sums.{sum_by-cons}
use Rattle.model.specs.State.{Inode, Description, Process, Rights}
use Rattle.model.specs.Changes.{Edit}
use Rattle.std.specs.List.{Contains}
use Rattle.model.specs.Moments.{is_in}
use Rattle.freeing_laws.specs.Counts.{named, times, unnamed}
use Rattle.notes.specs.declared.change.InodeChange.{InodeChange}
use Rattle.notes.specs.declared.change.Contents.{Contents}
use Rattle.notes.specs.Patches.{AllReach, new_ends, Net, Patches, added_by, form_of, is_new, kept_at, net_at, numbers_in, opening_at, patched, reopened, reslotted, rights_over}
use Rattle.notes.specs.Notes.{At, SameInodes, SamePatches}
use Rattle.notes.specs.Openings.{SameOpenings, SameSlots}
use Rattle.notes.specs.Steps.{CanPass, MakesPipe, TakesIn, blocks_by, numbers_kept, description_after, form_after, inode_after, made_after, opened_in, parents_in, process_after, rights_after}

abbrev pub Changes : Type 0
Changes = List (ℕ × InodeChange)

-- how often a number stands in a list of one
counted : (n m : ℕ) → times n (m ∷ []) ≡ cond (m == n) 1 0
counted n m = let c : times n (m ∷ []) ≡ cond (m == n) 1 0 + times n [] = sum_by-cons (λ v. cond (v == n) 1 0) m [] in let none : times n [] ≡ 0 = refl in omega arith

pub counted_here : (n m : ℕ) → n ≡ m → times n (m ∷ []) ≡ 1
counted_here n m e = counted n m ∙ ap (λ b. cond b 1 0) (eq-eqb m n (sym e))

pub counted_elsewhere : (n m : ℕ) → n ≢ m → times n (m ∷ []) ≡ 0
counted_elsewhere n m away = counted n m ∙ ap (λ b. cond b 1 0) (ne_eqb m n (λ e. away (sym e)))

-- the same blocks, and none besides
pub as_written : (b : ℕ) (now before : List ℕ) → now ≡ before → Contains now b ↔ Contains (before ++ []) b
as_written b now before is = (λ h. subst (λ xs. Contains xs b) (is ∙ sym (append-nil before)) h, λ h. subst (λ xs. Contains xs b) (append-nil before ∙ sym is) h)

-- What one edit more makes of what is kept under one number.
pub record Taken (chosen : List ℕ) (e : Edit) (n : ℕ) (old new : Net) : Type 0 where
  pub contents : (o : Option Inode) → CanPass e n old.contents o → patched new.contents o ≡ inode_after chosen e n (patched old.contents o)
  pub reach : (o : Option Inode) → CanPass e n old.contents o → AllReach old.contents o → AllReach new.contents o
  pub ends : (ends : ℕ × ℕ) → new_ends new.contents ≡ Some ends → (new_ends old.contents ≡ Some ends) ⊎ MakesPipe chosen e n ends
  pub made : new.made ≡ made_after chosen e n old.made
  pub promised : new.promised ≡ old.promised + times n (parents_in e)
  pub named : new.named ≡ old.named + times n (named chosen e)
  pub unnamed : new.unnamed ≡ old.unnamed + times n (unnamed e)
  pub form : form_of new.contents ≡ form_after chosen e n (form_of old.contents)
  pub added : added_by new.contents ≤ added_by old.contents + times n (parents_in e)
  pub written : (b : ℕ) → Contains (numbers_in new.contents) b ↔ Contains (numbers_kept chosen e n (numbers_in old.contents) ++ blocks_by n e) b

-- contents of no pipe that is new have no ends
pub no_ends : {X : Type 0} (c : Contents) → new_ends c ≡ None → (ends : ℕ × ℕ) → new_ends c ≡ Some ends → X
no_ends c none ends is = absurd (let no : None ≡ Some ends = sym none ∙ is in cc)

-- Patches take in an edit of a name or of bytes where each number does.
pub takes_first : (chosen : List ℕ) (e : Edit) (old new : Patches) → ((n : ℕ) → Taken chosen e n (net_at old.inodes n) (net_at new.inodes n))
    → new.rights ≡ old.rights → new.openings ≡ old.openings → new.slots ≡ old.slots → new.unnamed_inodes ≡ old.unnamed_inodes ++ unnamed e
    → ((n : ℕ) (o : Option Rights) → rights_after e n o ≡ o) → ((d : ℕ) (o : Option Description) → description_after chosen e d o ≡ o) → ((pid : ℕ) (o : Option Process) → process_after chosen e pid o ≡ o) → opened_in chosen e ≡ []
    → TakesIn chosen e old new
takes_first chosen e old new each rights openings slots unnamed_inodes as_set as_was as_were none = record {
  inodes = λ n. (each n).contents;
  reach = λ n. (each n).reach;
  pipes = λ n. (each n).ends;
  rights = λ n o. ap (λ rs. rights_over (kept_at rs n) o) rights ∙ sym (as_set n (rights_over (kept_at old.rights n) o));
  descriptions = λ d o. ap (λ os. reopened (opening_at os d) o) openings ∙ sym (as_was d (reopened (opening_at old.openings d) o));
  processes = λ pid o. ap (λ ss. reslotted (kept_at ss pid) o) slots ∙ sym (as_were pid (reslotted (kept_at old.slots pid) o));
  made = λ n. (each n).made;
  promised = λ n. (each n).promised;
  named = λ n. (each n).named;
  unnamed = λ n. (each n).unnamed;
  unnamed_inodes = unnamed_inodes;
  forms = λ n. (each n).form;
  added = λ n. (each n).added;
  written = λ n. (each n).written;
  news = λ d. ap (λ os. is_new (opening_at os d)) openings ∙ ap (λ ds. is_in d ds || is_new (opening_at old.openings d)) (sym none);
}

-- All shows as before, and then what is noted is taken in.
pub same_then_takes : (chosen : List ℕ) (e : Edit) (old mid new : Patches) → SamePatches old mid → TakesIn chosen e mid new → TakesIn chosen e old new
same_then_takes chosen e old mid new same t =
    let rest : (n : ℕ) → net_at mid.inodes n ≡ net_at old.inodes n = same.inodes.nets in
    record {
      inodes = λ n o can. t.inodes n o (subst (λ (net : Net). CanPass e n net.contents o) (sym (rest n)) can) ∙ ap (λ (net : Net). inode_after chosen e n (patched net.contents o)) (rest n);
      reach = λ n o can was. t.reach n o (subst (λ (net : Net). CanPass e n net.contents o) (sym (rest n)) can) (subst (λ (net : Net). AllReach net.contents o) (sym (rest n)) was);
      pipes = λ n ends is. subst (λ (net : Net). (new_ends net.contents ≡ Some ends) ⊎ MakesPipe chosen e n ends) (rest n) (t.pipes n ends is);
      rights = λ n o. t.rights n o ∙ ap (λ r. rights_after e n (rights_over r o)) (same.rights n);
      descriptions = λ d o. t.descriptions d o ∙ ap (λ op. description_after chosen e d (reopened op o)) (same.openings d);
      processes = λ pid o. t.processes pid o ∙ ap (process_after chosen e pid) (same.processes pid o);
      made = λ n. t.made n ∙ ap (λ (net : Net). made_after chosen e n net.made) (rest n);
      promised = λ n. t.promised n ∙ ap (λ (net : Net). net.promised + times n (parents_in e)) (rest n);
      named = λ n. t.named n ∙ ap (λ (net : Net). net.named + times n (named chosen e)) (rest n);
      unnamed = λ n. t.unnamed n ∙ ap (λ (net : Net). net.unnamed + times n (unnamed e)) (rest n);
      unnamed_inodes = t.unnamed_inodes ∙ ap (λ ns. ns ++ unnamed e) same.unnamed_inodes;
      forms = λ n. t.forms n ∙ ap (λ (net : Net). form_after chosen e n (form_of net.contents)) (rest n);
      added = λ n. subst (λ (net : Net). added_by (net_at new.inodes n).contents ≤ added_by net.contents + times n (parents_in e)) (rest n) (t.added n);
      news = λ d. t.news d ∙ ap (λ op. is_in d (opened_in chosen e) || is_new op) (same.openings d);
      written = λ n b. subst (λ (net : Net). Contains (numbers_in (net_at new.inodes n).contents) b ↔ Contains (numbers_kept chosen e n (numbers_in net.contents) ++ blocks_by n e) b) (rest n) (t.written n b);
    }

-- all shows as before, again and again
pub same_inodes : (a b c : Changes) → SameInodes a b → SameInodes b c → SameInodes a c
same_inodes a b c s t = record {
  nets = λ n. t.nets n ∙ s.nets n;
  places = λ n there. t.places n (s.places n there);
}

pub same_patches : (a b c : Patches) → SamePatches a b → SamePatches b c → SamePatches a c
same_patches a b c s t = record {
  inodes = same_inodes a.inodes b.inodes c.inodes s.inodes t.inodes;
  rights = λ n. t.rights n ∙ s.rights n;
  openings = λ d. t.openings d ∙ s.openings d;
  processes = λ pid o. t.processes pid o ∙ s.processes pid o;
  unnamed_inodes = t.unnamed_inodes ∙ s.unnamed_inodes;
}

-- where no more than places of inodes has changed
pub only_inodes : (old new : Patches) → SameInodes old.inodes new.inodes → new.rights ≡ old.rights → new.openings ≡ old.openings → new.slots ≡ old.slots → new.unnamed_inodes ≡ old.unnamed_inodes → SamePatches old new
only_inodes old new inodes rights openings slots unnamed_inodes = record {
  inodes = inodes;
  rights = λ n. ap (λ rs. kept_at rs n) rights;
  openings = λ d. ap (λ os. opening_at os d) openings;
  processes = λ pid o. ap (λ ss. reslotted (kept_at ss pid) o) slots;
  unnamed_inodes = unnamed_inodes;
}

-- places were made, and nothing else has changed
pub with_places : (old : Patches) (inodes : Changes) (new : Patches) → SameInodes old.inodes inodes → new.inodes ≡ inodes → new.rights ≡ old.rights → new.unnamed_inodes ≡ old.unnamed_inodes → SameOpenings old.openings new.openings → SameSlots old.slots new.slots → SamePatches old new
with_places old inodes new same is rights unnamed_inodes openings slots = record {
  inodes = subst (SameInodes old.inodes) (sym is) same;
  rights = λ n. ap (λ rs. kept_at rs n) rights;
  openings = openings.each;
  processes = slots.each;
  unnamed_inodes = unnamed_inodes;
}

pub at_here : (p n : ℕ) (R : Net → Net → Type 0) (s t : Changes) → At p R s t → n ≡ p → R (net_at s n) (net_at t n)
at_here p n R s t at is = subst (λ k. R (net_at s k) (net_at t k)) (sym is) at.here
