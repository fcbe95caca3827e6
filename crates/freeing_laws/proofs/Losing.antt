-- After an edit what nothing leads to is what nothing led to before it, or what it may have lost.
use Rattle.std.proofs.Common.{◌≡◌, ◌≢◌, ℕ, ◌+◌, ◌<◌, ◌==◌, true, cond, List, [], ◌∷◌, Some, None, refl, sym, ap, subst, ◌∙◌, arith, ◌⊎◌, inl, inr, nat_cmp, nat_lt, lt-ltb, ltb-true, eqb-true}
use Rattle.std.specs.Cmp.{nat_cmp_total}
use Rattle.std.proofs.lemmas.Bool.{cases_eq}
use Rattle.model.specs.FiniteMap.{FinMap, get, empty, insert}
use Rattle.model.specs.State.{Kind, A_directory, Kernel, Inode, File, Directory, Pipe, Fixed, Description, Process, kind, mapped, kind_of, links}
use Rattle.model.specs.Changes.{Edit, Made, number, Make_directory, Make_file, Make_fixed, Name_file, Unname_file, Unname_directory, Swap, Wipe, Move, Put_bytes, Cut, Take, Append, Set_offset, Set_rights, Open_inode, Make_pipe, Share_slot, Clear_slot, New_process, End_process, Mode, to_read, to_write, applied, set_inode, at_offset, at_start, open_at, holders, openings, is_held, without_descriptions}
use Rattle.model.proofs.Laws.{get_same, get_other}
use Rattle.call_laws.specs.Fits.{Fits}
use Rattle.call_laws.proofs.Laws.{one_some, not_none, some_same, stays_inserted, retained_some, some_part, Part, with_offset, set_there, with_tables, pipe_at, reached, either_of, rooted_reached, open_reached}
use Rattle.freeing_laws.specs.Counts.{times, named, unnamed, taken, let_go, EditCounts}
use Rattle.freeing_laws.specs.Sweep.{Lost, both, inodes_of, lost_by}
use Rattle.freeing_laws.proofs.Times.{Has, has_first, has_left, has_right, has_inode, fewer}
use Rattle.freeing_laws.proofs.Freeing.{Covers}

-- what comes is led to, and what is open stays open on the same inode
pub record Comes (k after : Kernel) : Type 0 where
  pub root : after.root ≡ k.root
  pub inodes : (n : ℕ) → get after.inodes n ≢ None → (get k.inodes n ≢ None) ⊎ (reached after n ≡ true)
  pub descriptions : (d : ℕ) → get after.descriptions d ≢ None → (get k.descriptions d ≢ None) ⊎ (is_held after d ≡ true)
  pub opens : (d : ℕ) (it : Description) → get k.descriptions d ≡ Some it → (now : Description) × (get after.descriptions d ≡ Some now) × (now.inode ≡ it.inode)

pub same_links : (k : Kernel) (n : ℕ) → links (without_descriptions k) n ≡ links k n
unfolding links
same_links k n = refl

-- a description that is held and open on n
pub record IsOpen (k : Kernel) (n : ℕ) : Type 0 where
  pub description : ℕ
  pub it : Description
  pub held : is_held k description ≡ true
  pub is : get k.descriptions description ≡ Some it
  pub inode : it.inode ≡ n

pub opened_by : (k : Kernel) (n : ℕ) → 0 < openings (without_descriptions k) n → IsOpen k n
unfolding openings
opened_by k n some =
    let part : Part nat_cmp (λ (v : Description). cond (v.inode == n) 1 0) (without_descriptions k).descriptions = some_part nat_cmp_total (λ (v : Description). cond (v.inode == n) 1 0) (without_descriptions k).descriptions some in
    let left = retained_some k.descriptions (is_held k) part.key part.value part.gives in
    record { description = part.key; it = part.value; held = left.0; is = left.1; inode = eqb-true part.value.inode n (one_some (part.value.inode == n) part.counts) }

pub edit_covers : (chosen : List ℕ) (k : Kernel) (e : Edit) (lost : Lost) → EditCounts chosen k e → Comes k (applied chosen e k) → Covers lost k → Covers (both lost (lost_by k e)) (applied chosen e k)
edit_covers chosen k e lost counts comes covers = record { descriptions = described; inodes = kept }
  where
    after : Kernel
    after = applied chosen e k

    held_still : (d : ℕ) → is_held k d ≡ true → (is_held after d ≡ true) ⊎ Has (let_go k e) d
    held_still d held = elim (fewer (holders after d) (times d (let_go k e)) (holders k d) (times d (taken chosen k e)) (counts.holders d) (ltb-true 0 (holders k d) held)) [
      | inl still ↦ inl (lt-ltb 0 (holders after d) still)
      | inr gone ↦ inr gone
    ]

    described : (d : ℕ) → get after.descriptions d ≢ None → (is_held after d ≡ true) ⊎ Has (both lost (lost_by k e)).descriptions d
    described d there = elim (comes.descriptions d there) [
      | inr held ↦ inl held
      | inl was ↦ elim (covers.descriptions d was) [
        | inr has ↦ inr (has_left d lost.descriptions (let_go k e) has)
        | inl held ↦ elim (held_still d held) [ inl still ↦ inl still | inr gone ↦ inr (has_right d lost.descriptions (let_go k e) gone) ]
      ]
    ]

    by_name : (n : ℕ) → 0 < links k n → (reached after n ≡ true) ⊎ Has (both lost (lost_by k e)).inodes n
    by_name n some = elim (fewer (links after n) (times n (unnamed e)) (links k n) (times n (named chosen e)) (counts.links n) some) [
      | inl still ↦ inl (rooted_reached after n (λ none. absurd (omega arith)))
      | inr gone ↦ inr (has_right n lost.inodes (lost_by k e).inodes (has_left n (unnamed e) (inodes_of k (let_go k e)) gone))
    ]

    by_opening : (n : ℕ) → IsOpen k n → (reached after n ≡ true) ⊎ Has (both lost (lost_by k e)).inodes n
    by_opening n o = elim (held_still o.description o.held) [
      | inl still ↦ let now = comes.opens o.description o.it o.is in inl (subst (λ n. reached after n ≡ true) (now.2 ∙ o.inode) (open_reached after o.description now.0 still now.1))
      | inr gone ↦ inr (has_right n lost.inodes (lost_by k e).inodes (has_right n (unnamed e) (inodes_of k (let_go k e)) (subst (Has (inodes_of k (let_go k e))) o.inode (has_inode k (let_go k e) o.description o.it gone o.is))))
    ]

    kept : (n : ℕ) → get after.inodes n ≢ None → (reached after n ≡ true) ⊎ Has (both lost (lost_by k e)).inodes n
    kept n there = elim (comes.inodes n there) [
      | inr is ↦ inl is
      | inl was ↦ elim (covers.inodes n was) [
        | inr has ↦ inr (has_left n lost.inodes (lost_by k e).inodes has)
        | inl is ↦ either_of (n == k.root) (nat_lt 0 (links (without_descriptions k) n)) (nat_lt 0 (openings (without_descriptions k) n)) ((reached after n ≡ true) ⊎ Has (both lost (lost_by k e)).inodes n) is
            (λ root. inl (rooted_reached after n (λ _. eqb-true n k.root root ∙ sym comes.root)))
            (λ some. by_name n (subst (λ c. 0 < c) (same_links k n) (ltb-true 0 (links (without_descriptions k) n) some)))
            (λ some. by_opening n (opened_by k n (ltb-true 0 (openings (without_descriptions k) n) some)))
      ]
    ]

-- what was there
there_by_kind : (k : Kernel) (n : ℕ) (what : Kind) → kind_of k n ≡ Some what → get k.inodes n ≢ None
there_by_kind k n what is none = not_none what (sym is ∙ ap (mapped kind) none)

was_there : {X : Type 0} (m : FinMap nat_cmp X) (n : ℕ) (new : X) (t : ℕ) → get m n ≢ None → get (insert m n new) t ≢ None → get m t ≢ None
was_there m n new t here there none = elim (cases_eq t n) [
  | inl same ↦ here (ap (get m) (sym same) ∙ none)
  | inr away ↦ there (get_other m n t new away ∙ none)
]

inode_comes : (k : Kernel) (n : ℕ) (new : Inode) → get k.inodes n ≢ None → Comes k (set_inode n new k)
inode_comes k n new here = record { root = refl; inodes = λ t there. inl (was_there k.inodes n new t here there); descriptions = λ d there. inl there; opens = λ d it is. (it, is, refl) }

moved_comes : (k : Kernel) (d e : ℕ) (new other : Inode) → get k.inodes d ≢ None → get k.inodes e ≢ None → Comes k (set_inode e other (set_inode d new k))
moved_comes k d e new other here here_too = record {
  root = refl;
  inodes = λ t there. inl (was_there k.inodes d new t here (was_there (insert k.inodes d new) e other t (stays_inserted k.inodes d new e here_too) there));
  descriptions = λ d there. inl there;
  opens = λ d it is. (it, is, refl);
}

-- a new inode with its name
made_comes : (k : Kernel) (d n : ℕ) (new other : Inode) → get k.inodes d ≢ None → 0 < links (set_inode d other (set_inode n new k)) n → Comes k (set_inode d other (set_inode n new k))
made_comes k d n new other here some = record {
  root = refl;
  inodes = λ t there. elim (cases_eq t n) [
    | inl same ↦ inr (subst (λ t. reached (set_inode d other (set_inode n new k)) t ≡ true) (sym same) (rooted_reached (set_inode d other (set_inode n new k)) n (λ none. absurd (omega arith))))
    | inr away ↦ inl (λ none. was_there (insert k.inodes n new) d other t (stays_inserted k.inodes n new d here) there (get_other k.inodes n t new away ∙ none))
  ];
  descriptions = λ d there. inl there;
  opens = λ d it is. (it, is, refl);
}

processes_come : (k : Kernel) (ps : FinMap nat_cmp Process) (made : ℕ) → Comes k (with_tables k k.descriptions ps made)
processes_come k ps made = record { root = refl; inodes = λ t there. inl there; descriptions = λ d there. inl there; opens = λ d it is. (it, is, refl) }

offset_comes : (k : Kernel) (d place : ℕ) (it : Description) → get k.descriptions d ≡ Some it → Comes k (with_offset d place it k)
offset_comes k d place it is = record {
  root = refl;
  inodes = λ t there. inl there;
  descriptions = λ t there. inl (was_there k.descriptions d (at_offset place it) t (λ none. not_none it (sym is ∙ none)) there);
  opens = λ t old was. elim (cases_eq t d) [
    | inl same ↦ (at_offset place it, ap (get (insert k.descriptions d (at_offset place it))) same ∙ get_same k.descriptions d (at_offset place it), ap (λ (o : Description). o.inode) (some_same it old (sym is ∙ ap (get k.descriptions) (sym same) ∙ was)))
    | inr away ↦ (old, get_other k.descriptions d t (at_offset place it) away ∙ was, refl)
  ];
}

-- a new description with its slot
open_comes : (k : Kernel) (d n : ℕ) (how : Mode) (q f : ℕ) → get k.descriptions d ≡ None → 0 < holders (open_at d n how q f k) d → Comes k (open_at d n how q f k)
open_comes k d n how q f new some = record {
  root = refl;
  inodes = λ t there. inl there;
  descriptions = λ t there. elim (cases_eq t d) [
    | inl same ↦ inr (subst (λ t. is_held (open_at d n how q f k) t ≡ true) (sym same) (lt-ltb 0 (holders (open_at d n how q f k) d) some))
    | inr away ↦ inl (λ none. there (get_other k.descriptions d t (at_start n how) away ∙ none))
  ];
  opens = λ t it is. (it, get_other k.descriptions d t (at_start n how) (λ same. not_none it (sym is ∙ ap (get k.descriptions) same ∙ new)) ∙ is, refl);
}

-- a pipe with its two descriptions
pipe_comes : (k : Kernel) (p d e q f g : ℕ) → get k.descriptions d ≡ None → get k.descriptions e ≡ None → d ≢ e → 0 < holders (pipe_at p d e q f g k) d → 0 < holders (pipe_at p d e q f g k) e → Comes k (pipe_at p d e q f g k)
pipe_comes k p d e q f g new new_too apart some some_too =
    let after : Kernel = pipe_at p d e q f g k in
    let ds : FinMap nat_cmp Description = insert k.descriptions d (at_start p to_read) in
    let held : is_held after d ≡ true = lt-ltb 0 (holders after d) some in
    let held_too : is_held after e ≡ true = lt-ltb 0 (holders after e) some_too in
    let here : get after.descriptions d ≡ Some (at_start p to_read) = get_other ds e d (at_start p to_write) apart ∙ get_same k.descriptions d (at_start p to_read) in
    record {
      root = refl;
      inodes = λ t there. elim (cases_eq t p) [
        | inl same ↦ inr (subst (λ t. reached after t ≡ true) (sym same) (open_reached after d (at_start p to_read) held here))
        | inr away ↦ inl (λ none. there (get_other k.inodes p t (Pipe []) away ∙ none))
      ];
      descriptions = λ t there. elim (cases_eq t e) [
        | inl same ↦ inr (subst (λ t. is_held after t ≡ true) (sym same) held_too)
        | inr away ↦ elim (cases_eq t d) [
          | inl same ↦ inr (subst (λ t. is_held after t ≡ true) (sym same) held)
          | inr away_too ↦ inl (λ none. there (get_other ds e t (at_start p to_write) away ∙ get_other k.descriptions d t (at_start p to_read) away_too ∙ none))
        ]
      ];
      opens = λ t it is. (
        it,
        get_other ds e t (at_start p to_write) (λ same. not_none it (sym is ∙ ap (get k.descriptions) same ∙ new_too))
            ∙ get_other k.descriptions d t (at_start p to_read) (λ same. not_none it (sym is ∙ ap (get k.descriptions) same ∙ new)) ∙ is,
        refl,
      );
    }

more_than : (after before more : ℕ) → after + 0 ≡ before + more → 0 < more → 0 < after
more_than after before more e some = omega arith

pub edit_comes : (chosen : List ℕ) (k : Kernel) (e : Edit) → Fits chosen k e → EditCounts chosen k e → Comes k (applied chosen e k)
unfolding applied
edit_comes chosen k (Make_directory d x i) f counts = let n : ℕ = number chosen (Made i) in made_comes k d n (Directory empty) _ (there_by_kind k d A_directory f.0.parent.directory) (more_than _ (links k n) (times n (n ∷ [])) (counts.links n) (has_first n []))
edit_comes chosen k (Make_file d x i) f counts = let n : ℕ = number chosen (Made i) in made_comes k d n (File []) _ (there_by_kind k d A_directory f.0.parent.directory) (more_than _ (links k n) (times n (n ∷ [])) (counts.links n) (has_first n []))
edit_comes chosen k (Make_fixed d x fixed i) f counts = let n : ℕ = number chosen (Made i) in made_comes k d n (Fixed fixed) _ (there_by_kind k d A_directory f.0.parent.directory) (more_than _ (links k n) (times n (n ∷ [])) (counts.links n) (has_first n []))
edit_comes chosen k (Name_file d x n) f counts = inode_comes k d _ (there_by_kind k d A_directory f.0.parent.directory)
edit_comes chosen k (Unname_file d x n) f counts = inode_comes k d _ (there_by_kind k d A_directory f.parent.directory)
edit_comes chosen k (Unname_directory d x n) f counts = inode_comes k d _ (there_by_kind k d A_directory f.0.parent.directory)
edit_comes chosen k (Move d x e y n replaced) f counts = moved_comes k d e _ _ (there_by_kind k d A_directory f.from.parent.directory) (there_by_kind k e A_directory f.onto.directory)
edit_comes chosen k (Swap d x n e y m) f counts = moved_comes k d e _ _ (there_by_kind k d A_directory f.first.parent.directory) (there_by_kind k e A_directory f.second.parent.directory)
edit_comes chosen k (Put_bytes n place bytes before) f counts = inode_comes k n _ (there_by_kind k n _ f.0)
edit_comes chosen k (Wipe n place count) f counts = inode_comes k n _ (there_by_kind k n _ f.0)
edit_comes chosen k (Cut n before after) f counts = inode_comes k n _ (there_by_kind k n _ f.0)
edit_comes chosen k (Take p count) f counts = inode_comes k p _ (there_by_kind k p _ f.0)
edit_comes chosen k (Append p bytes) f counts = inode_comes k p _ (there_by_kind k p _ f.0)
edit_comes chosen k (Set_offset d place) f counts = subst (Comes k) (sym (set_there k d place f.0 f.1)) (offset_comes k d place f.0 f.1)
edit_comes chosen k (Set_rights n rights) f counts = record { root = refl; inodes = λ t there. inl there; descriptions = λ d there. inl there; opens = λ d it is. (it, is, refl) }
edit_comes chosen k (Open_inode i inode how q f) can counts = let d : ℕ = number chosen (Made i) in open_comes k d (number chosen inode) how q f can.unused.description (more_than _ (holders k d) (times d (d ∷ [])) (counts.holders d) (has_first d []))
edit_comes chosen k (Make_pipe i q f g) can counts =
    let d : ℕ = number chosen (Made (i + 1)) in
    let e : ℕ = number chosen (Made (i + 2)) in
    pipe_comes k (number chosen (Made i)) d e q f g can.reader.description can.writer.description can.different
    (more_than _ (holders k d) (times d (d ∷ e ∷ [])) (counts.holders d) (has_first d (e ∷ [])))
    (more_than _ (holders k e) (times e (d ∷ e ∷ [])) (counts.holders e) (has_right e (d ∷ []) (e ∷ []) (has_first e [])))
edit_comes chosen k (Share_slot q f d pipes) can counts = processes_come k _ k.made
edit_comes chosen k (Clear_slot q f pipes) can counts = processes_come k _ k.made
edit_comes chosen k (New_process child parent pipes) can counts = processes_come k _ child
edit_comes chosen k (End_process q pipes) can counts = processes_come k _ k.made
