-- What is there stays through each edit, and what comes has a chosen number.
use Rattle.std.proofs.Common.{◌≡◌, ◌≢◌, ◌⊎◌, ℕ, ◌+◌, true, List, [], ◌∷◌, Option, Some, None, refl, sym, ap, subst, ◌∙◌, inl, inr}
use Rattle.std.proofs.lemmas.Bool.{cases_eq}
use Rattle.model.specs.FiniteMap.{FinMap, get, empty, insert, remove}
use Rattle.model.specs.State.{name_cmp, Kind, A_file, A_directory, A_pipe, A_link, Kernel, Inode, File, Directory, Pipe, Fixed, Description, kind, mapped, names_of, kind_of}
use Rattle.model.specs.Aspects.{Aspect, Entry, Names, Size, Block, Links, Ends, Offset, Front, Back, Target, Rights}
use Rattle.model.specs.Changes.{Edit, Made, number, Mode, Make_directory, Make_file, Make_fixed, Name_file, Unname_file, Unname_directory, Move, Swap, Put_bytes, Wipe, Cut, Take, Append, Set_offset, Set_rights, Open_inode, Make_pipe, Share_slot, Clear_slot, New_process, End_process, applied, all_applied, set_inode, set_name, clear_name, at_offset, at_start, set_description, open_at, to_read, to_write}
use Rattle.model.specs.Moments.{is_in}
use Rattle.call_laws.specs.Objects.{IsThere}
use Rattle.call_laws.specs.WellFormed.{CanBeLinked}
use Rattle.call_laws.specs.CallLaws.{object_of}
use Rattle.call_laws.specs.Fits.{Fits, FitsAll}
use Rattle.model.proofs.Laws.{get_other, unchanged_by}
use Rattle.call_laws.proofs.Maps.{not_none, stays_inserted}
use Rattle.call_laws.proofs.edits.Names.{has_names}
use Rattle.call_laws.proofs.edits.NamesAlike.{kept_kind}
use Rattle.call_laws.proofs.edits.InodeMarks.{some_linked}
use Rattle.call_laws.proofs.edits.Offsets.{set_there}

pub record Grows (chosen : List ℕ) (k after : Kernel) : Type 0 where
  pub kinds : (t : ℕ) (what : Kind) → kind_of k t ≡ Some what → kind_of after t ≡ Some what
  pub descriptions : (d : ℕ) → get k.descriptions d ≢ None → get after.descriptions d ≢ None
  pub old_kinds : (t : ℕ) (what : Kind) → kind_of after t ≡ Some what → (kind_of k t ≡ Some what) ⊎ (is_in t chosen ≡ true)
  pub old_descriptions : (d : ℕ) → get after.descriptions d ≢ None → (get k.descriptions d ≢ None) ⊎ (is_in d chosen ≡ true)

pub grows_none : (chosen : List ℕ) (k : Kernel) → Grows chosen k k
grows_none chosen k = record { kinds = λ t what e. e; descriptions = λ d e. e; old_kinds = λ t what e. inl e; old_descriptions = λ d e. inl e }

pub then_grows : (chosen : List ℕ) (k mid after : Kernel) → Grows chosen k mid → Grows chosen mid after → Grows chosen k after
then_grows chosen k mid after f g = record {
  kinds = λ t what e. g.kinds t what (f.kinds t what e);
  descriptions = λ d e. g.descriptions d (f.descriptions d e);
  old_kinds = λ t what e. elim (g.old_kinds t what e) [ inl is ↦ f.old_kinds t what is | inr new ↦ inr new ];
  old_descriptions = λ d e. elim (g.old_descriptions d e) [ inl is ↦ f.old_descriptions d is | inr new ↦ inr new ];
}

-- an inode of the same kind
same_grows : (chosen : List ℕ) (k : Kernel) (n : ℕ) (new : Inode) → kind_of k n ≡ Some (kind new) → Grows chosen k (set_inode n new k)
same_grows chosen k n new same = record {
  kinds = λ t what e. unchanged_by (mapped kind) k n new (sym same) t ∙ e;
  descriptions = λ d e. e;
  old_kinds = λ t what e. inl (sym (unchanged_by (mapped kind) k n new (sym same) t) ∙ e);
  old_descriptions = λ d e. inl e;
}

-- a new inode
new_grows : (chosen : List ℕ) (k : Kernel) (n : ℕ) (new : Inode) → get k.inodes n ≡ None → is_in n chosen ≡ true → Grows chosen k (set_inode n new k)
new_grows chosen k n new none listed = record {
  kinds = λ t what e. kept_kind k n t new what none e;
  descriptions = λ d e. e;
  old_kinds = λ t what e. elim (cases_eq t n) [
    | inl is ↦ inr (subst (λ t. is_in t chosen ≡ true) (sym is) listed)
    | inr away ↦ inl (sym (ap (mapped kind) (get_other k.inodes n t new away)) ∙ e)
  ];
  old_descriptions = λ d e. inl e;
}

made_grows : (chosen : List ℕ) (k : Kernel) (d : ℕ) (names : FinMap name_cmp ℕ) (n : ℕ) (new : Inode) → get k.inodes n ≡ None → is_in n chosen ≡ true → kind_of k d ≡ Some A_directory → Grows chosen k (set_inode d (Directory names) (set_inode n new k))
made_grows chosen k d names n new none listed is = then_grows chosen k (set_inode n new k) (set_inode d (Directory names) (set_inode n new k)) (new_grows chosen k n new none listed)
    (same_grows chosen (set_inode n new k) d (Directory names) (kept_kind k n d new A_directory none is))

-- a new description
described_grows : (chosen : List ℕ) (k : Kernel) (d : ℕ) (it : Description) → (get k.descriptions d ≢ None) ⊎ (is_in d chosen ≡ true) → Grows chosen k (set_description d it k)
described_grows chosen k d it listed = record {
  kinds = λ t what e. e;
  descriptions = stays_inserted k.descriptions d it;
  old_kinds = λ t what e. inl e;
  old_descriptions = λ e there. elim (cases_eq e d) [
    | inl same ↦ subst (λ d. (get k.descriptions d ≢ None) ⊎ (is_in d chosen ≡ true)) (sym same) listed
    | inr away ↦ inl (λ none. there (get_other k.descriptions d e it away ∙ none))
  ];
}

-- with its slot
open_grows : (chosen : List ℕ) (k : Kernel) (d n : ℕ) (how : Mode) (pid f : ℕ) → is_in d chosen ≡ true → Grows chosen k (open_at d n how pid f k)
open_grows chosen k d n how pid f listed =
    let g = described_grows chosen k d (at_start n how) (inr listed) in
    record { kinds = g.kinds; descriptions = g.descriptions; old_kinds = g.old_kinds; old_descriptions = g.old_descriptions }

pub edit_grows : (chosen : List ℕ) (k : Kernel) (e : Edit) → Fits chosen k e → Grows chosen k (applied chosen e k)
unfolding applied
edit_grows chosen k (Make_directory d x i) f = made_grows chosen k d _ (number chosen (Made i)) (Directory empty) f.1.inode f.2 f.0.parent.directory
edit_grows chosen k (Make_file d x i) f = made_grows chosen k d _ (number chosen (Made i)) (File []) f.1.inode f.2 f.0.parent.directory
edit_grows chosen k (Make_fixed d x fixed i) f = made_grows chosen k d _ (number chosen (Made i)) (Fixed fixed) f.1.inode f.2 f.0.parent.directory
edit_grows chosen k (Name_file d x n) f = same_grows chosen k d _ f.0.parent.directory
edit_grows chosen k (Unname_file d x n) f = same_grows chosen k d _ f.parent.directory
edit_grows chosen k (Unname_directory d x n) f = same_grows chosen k d _ f.0.parent.directory
edit_grows chosen k (Move d x e y n replaced) f = then_grows chosen k (clear_name d x k) (set_name e y n (clear_name d x k)) (same_grows chosen k d _ f.from.parent.directory)
    (same_grows chosen (clear_name d x k) e _ ((has_names k d (remove (names_of k d) x) f.from.parent.directory).kinds e ∙ f.onto.directory))
edit_grows chosen k (Swap d x n e y m) f = then_grows chosen k (set_name d x m k) (set_name e y n (set_name d x m k)) (same_grows chosen k d _ f.first.parent.directory)
    (same_grows chosen (set_name d x m k) e _ ((has_names k d (insert (names_of k d) x m) f.first.parent.directory).kinds e ∙ f.second.parent.directory))
edit_grows chosen k (Put_bytes n place bytes before) f = same_grows chosen k n _ f.0
edit_grows chosen k (Wipe n place count) f = same_grows chosen k n _ f.0
edit_grows chosen k (Cut n before after) f = same_grows chosen k n _ f.0
edit_grows chosen k (Take p count) f = same_grows chosen k p _ f.0
edit_grows chosen k (Append p bytes) f = same_grows chosen k p _ f.0
edit_grows chosen k (Set_offset d place) f = subst (Grows chosen k) (sym (set_there k d place f.0 f.1)) (described_grows chosen k d (at_offset place f.0) (inl (λ none. not_none f.0 (sym f.1 ∙ none))))
edit_grows chosen k (Set_rights n rights) f = record { kinds = λ t what e. e; descriptions = λ d e. e; old_kinds = λ t what e. inl e; old_descriptions = λ d e. inl e }
edit_grows chosen k (Open_inode i inode how q f) can = open_grows chosen k (number chosen (Made i)) (number chosen inode) how q f can.listed
edit_grows chosen k (Make_pipe i q f g) can =
    let p : ℕ = number chosen (Made i) in
    let first : Grows chosen k (set_inode p (Pipe []) k) = new_grows chosen k p (Pipe []) can.pipe.inode can.listed in
    let second : Grows chosen (set_inode p (Pipe []) k) (open_at (number chosen (Made (i + 1))) p to_read q f (set_inode p (Pipe []) k)) = open_grows chosen (set_inode p (Pipe []) k) (number chosen (Made (i + 1))) p to_read q f can.reader_listed in
    then_grows chosen k (open_at (number chosen (Made (i + 1))) p to_read q f (set_inode p (Pipe []) k)) _ (then_grows chosen k (set_inode p (Pipe []) k) _ first second)
    (open_grows chosen (open_at (number chosen (Made (i + 1))) p to_read q f (set_inode p (Pipe []) k)) (number chosen (Made (i + 2))) p to_write q g can.writer_listed)
edit_grows chosen k (Share_slot q f d pipes) can = record { kinds = λ t what e. e; descriptions = λ d e. e; old_kinds = λ t what e. inl e; old_descriptions = λ d e. inl e }
edit_grows chosen k (Clear_slot q f pipes) can = record { kinds = λ t what e. e; descriptions = λ d e. e; old_kinds = λ t what e. inl e; old_descriptions = λ d e. inl e }
edit_grows chosen k (New_process child parent pipes) can = record { kinds = λ t what e. e; descriptions = λ d e. e; old_kinds = λ t what e. inl e; old_descriptions = λ d e. inl e }
edit_grows chosen k (End_process q pipes) can = record { kinds = λ t what e. e; descriptions = λ d e. e; old_kinds = λ t what e. inl e; old_descriptions = λ d e. inl e }

pub all_grow : (chosen : List ℕ) (es : List Edit) (k : Kernel) → FitsAll chosen k es → Grows chosen k (all_applied chosen es k)
all_grow chosen [] k f = grows_none chosen k
all_grow chosen (e ∷ es) k f = then_grows chosen k (applied chosen e k) (all_applied chosen es (applied chosen e k)) (edit_grows chosen k e f.0) (all_grow chosen es (applied chosen e k) f.1)

-- what is of some kind
of_some : (k after : Kernel) (n : ℕ) (P : Type 0) → ((what : Kind) → kind_of k n ≡ Some what → (kind_of after n ≡ Some what) ⊎ P) → kind_of k n ≢ None → (kind_of after n ≢ None) ⊎ P
of_some k after n P kinds is = by_kind (kind_of k n) refl
  where
    by_kind : (o : Option Kind) → kind_of k n ≡ o → (kind_of after n ≢ None) ⊎ P
    by_kind None e = absurd (is e)
    by_kind (Some what) e = elim (kinds what e) [ inl still ↦ inl (λ none. not_none what (sym still ∙ none)) | inr new ↦ inr new ]

-- what is shown of kinds and descriptions is shown of each aspect's object
of_object : (k after : Kernel) (P : ℕ → Type 0) → ((t : ℕ) (what : Kind) → kind_of k t ≡ Some what → (kind_of after t ≡ Some what) ⊎ P t)
    → ((d : ℕ) → get k.descriptions d ≢ None → (get after.descriptions d ≢ None) ⊎ P d) → (a : Aspect) → IsThere k a → IsThere after a ⊎ P (object_of a)
of_object k after P kinds descriptions (Entry d x) is = kinds d A_directory is
of_object k after P kinds descriptions (Names d) is = kinds d A_directory is
of_object k after P kinds descriptions (Size n) is = kinds n A_file is
of_object k after P kinds descriptions (Block n block) is = kinds n A_file is
of_object k after P kinds descriptions (Links n) is =
    let some = some_linked (kind_of k n) is in
    elim (kinds n some.0 some.1) [ inl e ↦ inl (subst CanBeLinked (some.1 ∙ sym e) is) | inr new ↦ inr new ]
of_object k after P kinds descriptions (Target n) is = kinds n A_link is
of_object k after P kinds descriptions (Rights n) is = of_some k after n (P n) (kinds n) is
of_object k after P kinds descriptions (Ends p) is = kinds p A_pipe is
of_object k after P kinds descriptions (Front p) is = kinds p A_pipe is
of_object k after P kinds descriptions (Back p) is = kinds p A_pipe is
of_object k after P kinds descriptions (Offset d) is = descriptions d is

-- what is there stays
pub there_stays : (chosen : List ℕ) (k after : Kernel) → Grows chosen k after → (a : Aspect) → IsThere k a → IsThere after a
there_stays chosen k after grows a is =
    elim (of_object k after (λ t. ⊥) (λ t what e. inl (grows.kinds t what e)) (λ d e. inl (grows.descriptions d e)) a is) [ inl stays ↦ stays | inr none ↦ absurd none ]

-- what is there was there, or is new
pub there_came : (chosen : List ℕ) (k after : Kernel) → Grows chosen k after → (a : Aspect) → IsThere after a → IsThere k a ⊎ (is_in (object_of a) chosen ≡ true)
there_came chosen k after grows = of_object after k (λ t. is_in t chosen ≡ true) grows.old_kinds grows.old_descriptions
