-- States that are alike in all that something leads to stay so through each edit: to tidy before a change and after it is to tidy after it.
use Rattle.std.proofs.Common.{◌≡◌, ◌≢◌, ℕ, ◌+◌, ◌≤◌, ◌<◌, Bool, true, false, cond, ◌||◌, List, [], ◌∷◌, ◌++◌, drop, replicate, Option, Some, None, sum_by, count_by, refl, sym, ap, ap₂, subst, ◌∙◌, arith, ◌==◌, nat_lt, nat_cmp, inl, inr, lt-ltb, ltb-true, eqb-true}
use Rattle.std.specs.Cmp.{nat_cmp_total}
use Rattle.model.specs.FiniteMap.{FinMap, get, empty, insert, remove, values, retain_keys, nat_cmp-IsAntisymmetric, same_map}
use Rattle.std.proofs.lemmas.Bool.{cases_eq, or_left, or_right}
use Rattle.model.specs.State.{Name, name_cmp, A_directory, Kernel, Inode, File, Directory, Pipe, Fixed, Description, Process, Rights, kind, names_of, names_of_inode, file_of, file_of_inode, pipe_of, pipe_of_inode, kind_of, links}
use Rattle.model.specs.Changes.{Edit, Make_directory, Make_file, Make_fixed, Name_file, Unname_file, Unname_directory, Move, Swap, Put_bytes, Wipe, Cut, Take, Append, Set_offset, Set_rights, Open_inode, Make_pipe, Share_slot, Clear_slot, New_process, End_process, Mode, number, to_read, to_write, at_offset, at_start, open_at, set_process, with_slot, without_slot, process_of, or_new, applied, all_applied, set_inode, set_name, clear_name, set_offset, set_rights, sized, written, holders, openings, is_held, without_descriptions, tidy}
use Rattle.model.specs.Steps.{IsNowhere}
use Rattle.call_laws.specs.Fits.{Fits, FitsAll, table_of}
use Rattle.call_laws.specs.WellFormed.{IsRooted, WellFormed}
use Rattle.model.proofs.Laws.{weight, sum-insert, sum-remove, get_same, get_other}
use Rattle.call_laws.proofs.edits.Names.{has_names, one, counted, links_named, links_unnamed}
use Rattle.call_laws.proofs.edits.Contents.{HasBytes, has_bytes, no_names_file, no_names_pipe}
use Rattle.call_laws.proofs.edits.NamesAlike.{IsNew, is_new, kept_kind}
use Rattle.call_laws.proofs.edits.InodeMarks.{not_counted}
use Rattle.call_laws.proofs.edits.Offsets.{with_offset, set_there}
use Rattle.call_laws.proofs.Tidying.{reached, either_of, named_in, tables_weight, rooted_reached, named_reached, get_tidy, rights_reached, held_by, held_stays, open_reached}
use Rattle.call_laws.proofs.law.WellTidy.{links_tidy}
use Rattle.call_laws.proofs.Maps.{one_some, some_same, some_part, Part, from_insert, from_remove, get_retained, retained_some}
use Rattle.call_laws.proofs.edits.Ends.{without_process}
use Rattle.call_laws.proofs.edits.SlotsAlike.{with_tables, pipe_at}

retained_alike : {X : Type 0} (m n : FinMap nat_cmp X) (p q : ℕ → Bool) → ((x : ℕ) → q x ≡ p x) → ((x : ℕ) → p x ≡ true → get n x ≡ get m x) → retain_keys n q ≡ retain_keys m p
retained_alike {X} m n p q tests values = same_map nat_cmp_total nat_cmp-IsAntisymmetric _ _ (λ x.
    get_retained n q x ∙ ap (λ b. cond b (get n x) None) (tests x) ∙ within x (p x) refl ∙ sym (get_retained m p x))
  where
    within : (x : ℕ) (b : Bool) → p x ≡ b → ◌≡◌ {A = Option X} (cond b (get n x) None) (cond b (get m x) None)
    within x true e = values x e
    within x false e = refl

-- an inode and its rights are the same in both
abbrev pub SameAt : Kernel → Kernel → ℕ → Type 0
SameAt a b n = (get b.inodes n ≡ get a.inodes n) × (get b.rights n ≡ get a.rights n)

-- two states that are alike in all that something leads to
pub record Alike (a b : Kernel) : Type 0 where
  pub root : b.root ≡ a.root
  pub bounds : b.bounds ≡ a.bounds
  pub processes : b.processes ≡ a.processes
  pub made : b.made ≡ a.made
  pub held : (d : ℕ) → is_held a d ≡ true → get b.descriptions d ≡ get a.descriptions d
  pub links : (n : ℕ) → links b n ≡ links a n
  pub inodes : (n : ℕ) → reached a n ≡ true → SameAt a b n

-- tidying leaves the same of them
pub alike_tidied : (a b : Kernel) → Alike a b → tidy b ≡ tidy a
unfolding tidy links openings holders
alike_tidied a b al =
    let holding : (d : ℕ) → is_held b d ≡ is_held a d = λ d. ap (λ (ps : FinMap nat_cmp Process). nat_lt 0 (sum_by (λ process. count_by (λ e. e == d) (values process.table)) (values ps))) al.processes in
    let descriptions : (without_descriptions b).descriptions ≡ (without_descriptions a).descriptions = retained_alike a.descriptions b.descriptions (is_held a) (is_held b) holding al.held in
    let tests : (n : ℕ) → reached b n ≡ reached a n = λ n.
    ap₂ (λ (x : Bool) (y : Bool). x || y) (ap (λ r. n == r) al.root) (ap₂ (λ (x : Bool) (y : Bool). x || y) (ap (nat_lt 0) (al.links n)) (ap (λ (ds : FinMap nat_cmp Description). nat_lt 0 (count_by (λ d. d.inode == n) (values ds))) descriptions)) in
    let kept : retain_keys b.inodes (reached b) ≡ retain_keys a.inodes (reached a) = retained_alike a.inodes b.inodes (reached a) (reached b) tests (λ n e. (al.inodes n e).0) in
    let set : retain_keys b.rights (reached b) ≡ retain_keys a.rights (reached a) = retained_alike a.rights b.rights (reached a) (reached b) tests (λ n e. (al.inodes n e).1) in
    λ i. record { root = al.root i; inodes = kept i; rights = set i; descriptions = descriptions i; processes = al.processes i; made = al.made i; bounds = al.bounds i }

pub tidied_alike : (k : Kernel) → WellFormed k → Alike k (tidy k)
unfolding tidy
tidied_alike k well = record {
  root = refl;
  bounds = refl;
  processes = refl;
  made = refl;
  held = held_stays k;
  links = links_tidy k well;
  inodes = λ n e. (get_tidy k n ∙ ap (λ b. cond b (get k.inodes n) None) e, rights_reached k n e);
}

-- fewer names, fewer inodes
reached_more : (b c : Bool) (few many : ℕ) → few ≤ many → (b || (nat_lt 0 few || c)) ≡ true → (b || (nat_lt 0 many || c)) ≡ true
reached_more true c few many h e = refl
reached_more false c few many h e =
    elim (nat_lt 0 few) as (λ t. nat_lt 0 few ≡ t → (t || c) ≡ true → (nat_lt 0 many || c) ≡ true) [
      | true ↦ λ is _. ap (λ t. t || c) (lt-ltb 0 many (let p : 0 < few = ltb-true 0 few is in omega arith))
      | false ↦ λ is e. ap (λ t. nat_lt 0 many || t) e ∙ or_right (nat_lt 0 many) true refl
    ] refl e

-- an inode changes in both
fewer_reached : (k : Kernel) (n : ℕ) (new : Inode) (m : ℕ) → links (set_inode n new k) m ≤ links k m → reached (set_inode n new k) m ≡ true → reached k m ≡ true
unfolding links openings holders
fewer_reached k n new m few e = reached_more (m == k.root) _ (links (set_inode n new k) m) (links k m) few e

set_alike : (a b : Kernel) (n : ℕ) (new other : Inode) → Alike a b → ((m : ℕ) → links (set_inode n other b) m ≡ links (set_inode n new a) m)
    → (reached (set_inode n new a) n ≡ true → other ≡ new)
    → ((m : ℕ) → m ≢ n → reached (set_inode n new a) m ≡ true → get b.inodes m ≡ get a.inodes m)
    → ((m : ℕ) → reached (set_inode n new a) m ≡ true → get b.rights m ≡ get a.rights m) → Alike (set_inode n new a) (set_inode n other b)
unfolding holders
set_alike a b n new other al named here there set = record {
  root = al.root;
  bounds = al.bounds;
  processes = al.processes;
  made = al.made;
  held = al.held;
  links = named;
  inodes = λ m e. (
    elim (cases_eq m n) [
      | inl same ↦ ap (get (insert b.inodes n other)) same ∙ get_same b.inodes n other ∙ ap Some (here (subst (λ m. reached (set_inode n new a) m ≡ true) same e)) ∙ sym (ap (get (insert a.inodes n new)) same ∙ get_same a.inodes n new)
      | inr away ↦ get_other b.inodes n m other away ∙ there m away e ∙ sym (get_other a.inodes n m new away)
    ],
    set m e,
  );
}

bytes_alike : (a b : Kernel) (n : ℕ) (new other : Inode) → Alike a b → HasBytes a (set_inode n new a) → HasBytes b (set_inode n other b) → (get b.inodes n ≡ get a.inodes n → other ≡ new) → Alike (set_inode n new a) (set_inode n other b)
bytes_alike a b n new other al f g same = set_alike a b n new other al (λ m. g.links m ∙ al.links m ∙ sym (f.links m))
    (λ e. same (al.inodes n (fewer_reached a n new n (let l : links (set_inode n new a) n ≡ links a n = f.links n in omega arith) e)).0)
    (λ m _ e. (both m e).0) (λ m e. (both m e).1)
  where
    both : (m : ℕ) → reached (set_inode n new a) m ≡ true → SameAt a b m
    both m e = al.inodes m (fewer_reached a n new m (let l : links (set_inode n new a) m ≡ links a m = f.links m in omega arith) e)

new_alike : (a b : Kernel) (n : ℕ) (new : Inode) → Alike a b → IsNew a (set_inode n new a) n (kind new) → IsNew b (set_inode n new b) n (kind new) → Alike (set_inode n new a) (set_inode n new b)
new_alike a b n new al f g = set_alike a b n new new al (λ m. g.links m ∙ al.links m ∙ sym (f.links m)) (λ _. refl)
    (λ m _ e. (both m e).0) (λ m e. (both m e).1)
  where
    both : (m : ℕ) → reached (set_inode n new a) m ≡ true → SameAt a b m
    both m e = al.inodes m (fewer_reached a n new m (let l : links (set_inode n new a) m ≡ links a m = f.links m in omega arith) e)

-- a name that comes
named_alike : (a b : Kernel) (d : ℕ) (x : Name) (n : ℕ) → Alike a b → kind_of a d ≡ Some A_directory → kind_of b d ≡ Some A_directory → names_of b d ≡ names_of a d → SameAt a b n → Alike (set_name d x n a) (set_name d x n b)
named_alike a b d x n al is is_too names here = set_alike a b d (Directory (insert (names_of a d) x n)) (Directory (insert (names_of b d) x n)) al
    (λ m.
    let p : links (set_name d x n a) m + counted m (get (names_of a d) x) ≡ links a m + one n m = links_named a d x n is m in
    let q : links (set_name d x n b) m + counted m (get (names_of b d) x) ≡ links b m + one n m = links_named b d x n is_too m in
    let o : counted m (get (names_of b d) x) ≡ counted m (get (names_of a d) x) = ap (λ (ns : FinMap name_cmp ℕ). counted m (get ns x)) names in
    let l : links b m ≡ links a m = al.links m in
    omega arith)
    (λ _. ap (λ (ns : FinMap name_cmp ℕ). Directory (insert ns x n)) names)
    (λ m _ e. (both m e).0) (λ m e. (both m e).1)
  where
    both : (m : ℕ) → reached (set_name d x n a) m ≡ true → SameAt a b m
    both m e = elim (cases_eq m n) [
      | inl same ↦ subst (SameAt a b) (sym same) here
      | inr away ↦ al.inodes m (fewer_reached a d (Directory (insert (names_of a d) x n)) m
          (let p : links (set_name d x n a) m + counted m (get (names_of a d) x) ≡ links a m + one n m = links_named a d x n is m in let z : one n m ≡ 0 = not_counted n m (λ s. away (sym s)) in omega arith) e)
    ]

-- a name that goes
unnamed_alike : (a b : Kernel) (d : ℕ) (x : Name) → Alike a b → kind_of a d ≡ Some A_directory → kind_of b d ≡ Some A_directory → names_of b d ≡ names_of a d → Alike (clear_name d x a) (clear_name d x b)
unnamed_alike a b d x al is is_too names = set_alike a b d (Directory (remove (names_of a d) x)) (Directory (remove (names_of b d) x)) al
    (λ m.
    let p : links (clear_name d x a) m + counted m (get (names_of a d) x) ≡ links a m = links_unnamed a d x is m in
    let q : links (clear_name d x b) m + counted m (get (names_of b d) x) ≡ links b m = links_unnamed b d x is_too m in
    let o : counted m (get (names_of b d) x) ≡ counted m (get (names_of a d) x) = ap (λ (ns : FinMap name_cmp ℕ). counted m (get ns x)) names in
    let l : links b m ≡ links a m = al.links m in
    omega arith)
    (λ _. ap (λ (ns : FinMap name_cmp ℕ). Directory (remove ns x)) names)
    (λ m _ e. (both m e).0) (λ m e. (both m e).1)
  where
    both : (m : ℕ) → reached (clear_name d x a) m ≡ true → SameAt a b m
    both m e = al.inodes m (fewer_reached a d (Directory (remove (names_of a d) x)) m (let p : links (clear_name d x a) m + counted m (get (names_of a d) x) ≡ links a m = links_unnamed a d x is m in omega arith) e)

rooted_names : (a b : Kernel) → Alike a b → (d : ℕ) → IsRooted a d → names_of b d ≡ names_of a d
rooted_names a b al d r = ap names_of_inode (al.inodes d (rooted_reached a d r.rooted)).0

made_alike : (a b : Kernel) (d : ℕ) (x : Name) (n : ℕ) (new : Inode) → Alike a b → IsNowhere a n → IsNowhere b n → IsNew a (set_inode n new a) n (kind new) → IsNew b (set_inode n new b) n (kind new) → IsRooted a d → IsRooted b d
    → Alike (set_name d x n (set_inode n new a)) (set_name d x n (set_inode n new b))
made_alike a b d x n new al none none_too f g r s = named_alike (set_inode n new a) (set_inode n new b) d x n (new_alike a b n new al f g)
    (kept_kind a n d new A_directory none.inode r.directory) (kept_kind b n d new A_directory none_too.inode s.directory)
    (g.names d ∙ rooted_names a b al d r ∙ sym (f.names d)) (get_same b.inodes n new ∙ sym (get_same a.inodes n new), none_too.rights ∙ sym none.rights)

moved_alike : (a b : Kernel) (d : ℕ) (x : Name) (e : ℕ) (y : Name) (n : ℕ) → Alike a b → IsRooted a d → IsRooted b d → IsRooted a e → IsRooted b e → get (names_of a d) x ≡ Some n → Alike (set_name e y n (clear_name d x a)) (set_name e y n (clear_name d x b))
moved_alike a b d x e y n al r s r' s' gives =
    let names : names_of b d ≡ names_of a d = rooted_names a b al d r in
    let one = has_names a d (remove (names_of a d) x) r.directory in
    let two = has_names b d (remove (names_of b d) x) s.directory in
    named_alike (clear_name d x a) (clear_name d x b) e y n (unnamed_alike a b d x al r.directory s.directory names) (one.kinds e ∙ r'.directory) (two.kinds e ∙ s'.directory)
    (elim (cases_eq e d) [
      | inl same ↦ ap (names_of (clear_name d x b)) same ∙ two.here ∙ ap (λ (ns : FinMap name_cmp ℕ). remove ns x) names ∙ sym (ap (names_of (clear_name d x a)) same ∙ one.here)
      | inr away ↦ two.there e away ∙ rooted_names a b al e r' ∙ sym (one.there e away)
    ]) (
      elim (cases_eq n d) [
        | inl same ↦ ap (get (clear_name d x b).inodes) same ∙ get_same b.inodes d _ ∙ ap (λ (ns : FinMap name_cmp ℕ). Some (Directory (remove ns x))) names ∙ sym (ap (get (clear_name d x a).inodes) same ∙ get_same a.inodes d _)
        | inr away ↦ get_other b.inodes d n _ away ∙ (al.inodes n (named_reached a d x n gives)).0 ∙ sym (get_other a.inodes d n _ away)
      ],
      (al.inodes n (named_reached a d x n gives)).1,
    )

-- two names that change places
swapped_alike : (a b : Kernel) (d : ℕ) (x : Name) (n e : ℕ) (y : Name) (m : ℕ) → Alike a b → IsRooted a d → IsRooted b d → IsRooted a e → IsRooted b e → get (names_of a d) x ≡ Some n → get (names_of a e) y ≡ Some m → Alike (set_name e y n (set_name d x m a)) (set_name e y n (set_name d x m b))
swapped_alike a b d x n e y m al r s r' s' gives gives_too =
    let names : names_of b d ≡ names_of a d = rooted_names a b al d r in
    let one = has_names a d (insert (names_of a d) x m) r.directory in
    let two = has_names b d (insert (names_of b d) x m) s.directory in
    named_alike (set_name d x m a) (set_name d x m b) e y n (named_alike a b d x m al r.directory s.directory names (al.inodes m (named_reached a e y m gives_too))) (one.kinds e ∙ r'.directory) (two.kinds e ∙ s'.directory)
    (elim (cases_eq e d) [
      | inl same ↦ ap (names_of (set_name d x m b)) same ∙ two.here ∙ ap (λ (ns : FinMap name_cmp ℕ). insert ns x m) names ∙ sym (ap (names_of (set_name d x m a)) same ∙ one.here)
      | inr away ↦ two.there e away ∙ rooted_names a b al e r' ∙ sym (one.there e away)
    ]) (
      elim (cases_eq n d) [
        | inl same ↦ ap (get (set_name d x m b).inodes) same ∙ get_same b.inodes d _ ∙ ap (λ (ns : FinMap name_cmp ℕ). Some (Directory (insert ns x m))) names ∙ sym (ap (get (set_name d x m a).inodes) same ∙ get_same a.inodes d _)
        | inr away ↦ get_other b.inodes d n _ away ∙ (al.inodes n (named_reached a d x n gives)).0 ∙ sym (get_other a.inodes d n _ away)
      ],
      (al.inodes n (named_reached a d x n gives)).1,
    )

-- an offset is in no test of what is reached
open_count : (k : Kernel) (d place : ℕ) (it : Description) → get k.descriptions d ≡ Some it → (n : ℕ) → openings (without_descriptions (with_offset d place it k)) n ≡ openings (without_descriptions k) n
unfolding openings holders
open_count k d place it e n = by_test (is_held k d) refl
  where
    ds : FinMap nat_cmp Description
    ds = retain_keys k.descriptions (is_held k)

    after : FinMap nat_cmp Description
    after = retain_keys (insert k.descriptions d (at_offset place it)) (is_held k)

    count : FinMap nat_cmp Description → ℕ
    count m = count_by (λ t. t.inode == n) (values m)

    gone : (t : ℕ) → is_held k d ≡ false → get after t ≡ get ds t
    gone t loose = get_retained (insert k.descriptions d (at_offset place it)) (is_held k) t ∙ elim (cases_eq t d) [
      | inl same ↦ ap (λ b. cond b (get (insert k.descriptions d (at_offset place it)) t) None) (ap (is_held k) same ∙ loose) ∙ sym (get_retained k.descriptions (is_held k) t ∙ ap (λ b. cond b (get k.descriptions t) None) (ap (is_held k) same ∙ loose))
      | inr away ↦ ap (λ o. cond (is_held k t) o None) (get_other k.descriptions d t (at_offset place it) away) ∙ sym (get_retained k.descriptions (is_held k) t)
    ]

    put : (t : ℕ) → is_held k d ≡ true → get after t ≡ get (insert ds d (at_offset place it)) t
    put t fast = get_retained (insert k.descriptions d (at_offset place it)) (is_held k) t ∙ elim (cases_eq t d) [
      | inl same ↦ ap (λ b. cond b (get (insert k.descriptions d (at_offset place it)) t) None) (ap (is_held k) same ∙ fast) ∙ ap (get (insert k.descriptions d (at_offset place it))) same ∙ get_same k.descriptions d (at_offset place it) ∙ sym (ap (get (insert ds d (at_offset place it))) same ∙ get_same ds d (at_offset place it))
      | inr away ↦ ap (λ o. cond (is_held k t) o None) (get_other k.descriptions d t (at_offset place it) away) ∙ sym (get_other ds d t (at_offset place it) away ∙ get_retained k.descriptions (is_held k) t)
    ]

    by_test : (b : Bool) → is_held k d ≡ b → count after ≡ count ds
    by_test false loose = ap count (same_map nat_cmp_total nat_cmp-IsAntisymmetric after ds (λ t. gone t loose))
    by_test true fast =
        let w : Description → ℕ = λ t. cond (t.inode == n) 1 0 in
        let came : count (insert ds d (at_offset place it)) + weight w (get ds d) ≡ count ds + w (at_offset place it) = sum-insert nat_cmp_total nat_cmp-IsAntisymmetric w ds d (at_offset place it) in
        let was : weight w (get ds d) ≡ w (at_offset place it) = ap (weight w) (get_retained k.descriptions (is_held k) d ∙ ap (λ b. cond b (get k.descriptions d) None) fast ∙ e) in
        let all : count after ≡ count (insert ds d (at_offset place it)) = ap count (same_map nat_cmp_total nat_cmp-IsAntisymmetric after (insert ds d (at_offset place it)) (λ t. put t fast)) in
        omega arith

offset_alike : (a b : Kernel) (d place : ℕ) (it is : Description) → Alike a b → get a.descriptions d ≡ Some it → get b.descriptions d ≡ Some is → Alike (with_offset d place it a) (with_offset d place is b)
unfolding links holders
offset_alike a b d place it is al e f = record {
  root = al.root;
  bounds = al.bounds;
  processes = al.processes;
  made = al.made;
  held = λ t h. elim (cases_eq t d) [
    | inl same ↦ ap (get (insert b.descriptions d (at_offset place is))) same ∙ get_same b.descriptions d (at_offset place is)
        ∙ ap (λ o. Some (at_offset place o)) (some_same is it (sym f ∙ al.held d (subst (λ t. is_held a t ≡ true) same h) ∙ e))
        ∙ sym (ap (get (insert a.descriptions d (at_offset place it))) same ∙ get_same a.descriptions d (at_offset place it))
    | inr away ↦ get_other b.descriptions d t (at_offset place is) away ∙ al.held t h ∙ sym (get_other a.descriptions d t (at_offset place it) away)
  ];
  links = al.links;
  inodes = λ n h. al.inodes n (ap (λ c. (n == a.root) || (nat_lt 0 (links a n) || nat_lt 0 c)) (sym (open_count a d place it e n)) ∙ h);
}

-- slots: how many name a description, after a process has a new table
holders-set_process : (k : Kernel) (q : ℕ) (x : Process) (d : ℕ) → holders (set_process q x k) d + named_in d (table_of k q) ≡ holders k d + named_in d x.table
unfolding holders
holders-set_process k q x d = ap (λ w. holders (set_process q x k) d + w) (sym (tables_weight d (get k.processes q))) ∙ sum-insert nat_cmp_total nat_cmp-IsAntisymmetric (λ process. named_in d process.table) k.processes q x

holders-without_process : (k : Kernel) (q d : ℕ) → named_in d (table_of k q) + holders (without_process q k) d ≡ holders k d
unfolding holders
holders-without_process k q d = ap (λ w. w + holders (without_process q k) d) (sym (tables_weight d (get k.processes q))) ∙ sum-remove nat_cmp_total nat_cmp-IsAntisymmetric (λ process. named_in d process.table) k.processes q

-- a description that is held after a process has a new table was held before
was_held : (k : Kernel) (q : ℕ) (x : Process) (d : ℕ) → ((f : ℕ) → get x.table f ≡ Some d → is_held k d ≡ true) → is_held (set_process q x k) d ≡ true → is_held k d ≡ true
was_held k q x d each held =
    let more : 0 < holders (set_process q x k) d = ltb-true 0 (holders (set_process q x k) d) held in
    let moved : holders (set_process q x k) d + named_in d (table_of k q) ≡ holders k d + named_in d x.table = holders-set_process k q x d in
    elim (cases_eq (named_in d x.table) 0) [
      | inl none ↦ lt-ltb 0 (holders k d) (omega arith)
      | inr some ↦
          let part : Part nat_cmp (λ (e : ℕ). cond (e == d) 1 0) x.table = some_part nat_cmp_total (λ (e : ℕ). cond (e == d) 1 0) x.table (omega arith) in
          each part.key (part.gives ∙ ap Some (eqb-true part.value d (one_some (part.value == d) part.counts)))
    ]

-- a new description with its slot holds nothing else that was not held
opened_held : (k : Kernel) (d n : ℕ) (how : Mode) (q f e : ℕ) → e ≢ d → is_held (open_at d n how q f k) e ≡ true → is_held k e ≡ true
unfolding holders
opened_held k d n how q f e away held = was_held k q (with_slot f d (process_of k q)) e
    (λ g gives. elim (from_insert (table_of k q) f g d e gives) [
      | inl here ↦ absurd (away (sym here.1))
      | inr there ↦ held_by k q g e there.1
    ]) held

-- other descriptions and processes
tables_alike : (a b : Kernel) (ds es : FinMap nat_cmp Description) (ps qs : FinMap nat_cmp Process) (m n : ℕ) → Alike a b → qs ≡ ps → n ≡ m
    → ((d : ℕ) → is_held (with_tables a ds ps m) d ≡ true → get es d ≡ get ds d)
    → ((d : ℕ) (it : Description) → is_held (with_tables a ds ps m) d ≡ true → get ds d ≡ Some it → SameAt a b it.inode)
    → Alike (with_tables a ds ps m) (with_tables b es qs n)
unfolding links openings
tables_alike a b ds es ps qs m n al processes made held opened = record {
  root = al.root;
  bounds = al.bounds;
  processes = processes;
  made = made;
  held = held;
  links = al.links;
  inodes = λ t r. either_of (t == a.root) _ _ (SameAt a b t) r
      (λ e. al.inodes t (or_left (t == a.root) _ e))
      (λ e. al.inodes t (or_right (t == a.root) _ (or_left (nat_lt 0 (links a t)) _ e)))
      (λ e.
      let part : Part nat_cmp (λ (v : Description). cond (v.inode == t) 1 0) (without_descriptions (with_tables a ds ps m)).descriptions = some_part nat_cmp_total (λ (v : Description). cond (v.inode == t) 1 0) (without_descriptions (with_tables a ds ps m)).descriptions (ltb-true 0 _ e) in
      let left = retained_some ds (is_held (with_tables a ds ps m)) part.key part.value part.gives in
      subst (SameAt a b) (eqb-true part.value.inode t (one_some (part.value.inode == t) part.counts)) (opened part.key part.value left.0 left.1));
}

-- processes alone, that hold only what was held
processes_alike : (a b : Kernel) (ps qs : FinMap nat_cmp Process) (m n : ℕ) → Alike a b → qs ≡ ps → n ≡ m → ((d : ℕ) → is_held (with_tables a a.descriptions ps m) d ≡ true → is_held a d ≡ true)
    → Alike (with_tables a a.descriptions ps m) (with_tables b b.descriptions qs n)
processes_alike a b ps qs m n al processes made held = tables_alike a b a.descriptions b.descriptions ps qs m n al processes made
    (λ d h. al.held d (held d h))
    (λ d it h is. al.inodes it.inode (open_reached a d it (held d h) is))

table_alike : (a b : Kernel) (q : ℕ) (x y : Process) (m n : ℕ) → Alike a b → insert b.processes q y ≡ insert a.processes q x → n ≡ m → ((f d : ℕ) → get x.table f ≡ Some d → is_held a d ≡ true)
    → Alike (with_tables a a.descriptions (insert a.processes q x) m) (with_tables b b.descriptions (insert b.processes q y) n)
unfolding holders
table_alike a b q x y m n al processes made each = processes_alike a b (insert a.processes q x) (insert b.processes q y) m n al processes made (λ d held. was_held a q x d (λ f gives. each f d gives) held)

end_alike : (a b : Kernel) (q : ℕ) → Alike a b → Alike (without_process q a) (without_process q b)
unfolding holders
end_alike a b q al = processes_alike a b (remove a.processes q) (remove b.processes q) a.made b.made al (ap (λ (ps : FinMap nat_cmp Process). remove ps q) al.processes) al.made (λ d held.
    let gone : named_in d (table_of a q) + holders (without_process q a) d ≡ holders a d = holders-without_process a q d in
    let some : 0 < holders (without_process q a) d = ltb-true 0 (holders (without_process q a) d) held in
    lt-ltb 0 (holders a d) (omega arith))

-- a new description with its slot, of an inode that is the same in both
open_alike : (a b : Kernel) (d n : ℕ) (how : Mode) (q f : ℕ) → Alike a b → SameAt a b n → Alike (open_at d n how q f a) (open_at d n how q f b)
open_alike a b d n how q f al same =
    tables_alike a b (insert a.descriptions d (at_start n how)) (insert b.descriptions d (at_start n how)) (insert a.processes q (with_slot f d (process_of a q))) (insert b.processes q (with_slot f d (process_of b q))) a.made b.made al
    (ap (λ (ps : FinMap nat_cmp Process). insert ps q (with_slot f d (or_new (get ps q)))) al.processes) al.made
    (λ e held. elim (cases_eq e d) [
      | inl is ↦ ap (get (insert b.descriptions d (at_start n how))) is ∙ get_same b.descriptions d (at_start n how) ∙ sym (ap (get (insert a.descriptions d (at_start n how))) is ∙ get_same a.descriptions d (at_start n how))
      | inr away ↦ get_other b.descriptions d e (at_start n how) away ∙ al.held e (opened_held a d n how q f e away held) ∙ sym (get_other a.descriptions d e (at_start n how) away)
    ])
    (λ e it held gives. elim (from_insert a.descriptions d e (at_start n how) it gives) [
      | inl here ↦ subst (λ (it : Description). SameAt a b it.inode) here.1 same
      | inr there ↦ al.inodes it.inode (open_reached a e it (opened_held a d n how q f e there.0 held) there.1)
    ])

pipe_alike : (a b : Kernel) (p d e q f g : ℕ) → Alike a b → IsNowhere a p → IsNowhere b p → Alike (pipe_at p d e q f g a) (pipe_at p d e q f g b)
pipe_alike a b p d e q f g al none none_too =
    let same : SameAt (set_inode p (Pipe []) a) (set_inode p (Pipe []) b) p = (get_same b.inodes p (Pipe []) ∙ sym (get_same a.inodes p (Pipe [])), none_too.rights ∙ sym none.rights) in
    open_alike (open_at d p to_read q f (set_inode p (Pipe []) a)) (open_at d p to_read q f (set_inode p (Pipe []) b)) e p to_write q g
    (open_alike (set_inode p (Pipe []) a) (set_inode p (Pipe []) b) d p to_read q f (new_alike a b p (Pipe []) al (is_new a p (Pipe []) none.inode refl refl refl) (is_new b p (Pipe []) none_too.inode refl refl refl)) same)
    same

-- rights that are set in both
rights_alike : (a b : Kernel) (n : ℕ) (rights : Rights) → Alike a b → Alike (set_rights n rights a) (set_rights n rights b)
unfolding links openings holders
rights_alike a b n rights al = record {
  root = al.root;
  bounds = al.bounds;
  processes = al.processes;
  made = al.made;
  held = al.held;
  links = al.links;
  inodes = λ m e. (
    (al.inodes m e).0,
    elim (cases_eq m n) [
      | inl same ↦ ap (get (insert b.rights n rights)) same ∙ get_same b.rights n rights ∙ sym (ap (get (insert a.rights n rights)) same ∙ get_same a.rights n rights)
      | inr away ↦ get_other b.rights n m rights away ∙ (al.inodes m e).1 ∙ sym (get_other a.rights n m rights away)
    ],
  );
}

-- What is alike stays alike through one edit of both.
pub stays_alike : (chosen : List ℕ) (a b : Kernel) (e : Edit) → Alike a b → Fits chosen a e → Fits chosen b e → Alike (applied chosen e a) (applied chosen e b)
unfolding applied
stays_alike chosen a b (Make_directory d x i) al f g = made_alike a b d x _ (Directory empty) al f.1 g.1 (is_new a _ (Directory empty) f.1.inode refl refl refl) (is_new b _ (Directory empty) g.1.inode refl refl refl) f.0.parent g.0.parent
stays_alike chosen a b (Make_file d x i) al f g = made_alike a b d x _ (File []) al f.1 g.1 (is_new a _ (File []) f.1.inode refl refl refl) (is_new b _ (File []) g.1.inode refl refl refl) f.0.parent g.0.parent
stays_alike chosen a b (Make_fixed d x fixed i) al f g = made_alike a b d x _ (Fixed fixed) al f.1 g.1 (is_new a _ (Fixed fixed) f.1.inode refl refl refl) (is_new b _ (Fixed fixed) g.1.inode refl refl refl) f.0.parent g.0.parent
stays_alike chosen a b (Name_file d x n) al f g = named_alike a b d x n al f.0.parent.directory g.0.parent.directory (rooted_names a b al d f.0.parent) (al.inodes n (rooted_reached a n (λ none. absurd (f.2 none))))
stays_alike chosen a b (Unname_file d x n) al f g = unnamed_alike a b d x al f.parent.directory g.parent.directory (rooted_names a b al d f.parent)
stays_alike chosen a b (Unname_directory d x n) al f g = unnamed_alike a b d x al f.0.parent.directory g.0.parent.directory (rooted_names a b al d f.0.parent)
stays_alike chosen a b (Move d x e y n replaced) al f g = moved_alike a b d x e y n al f.from.parent g.from.parent f.onto g.onto f.from.gives
stays_alike chosen a b (Swap d x n e y m) al f g = swapped_alike a b d x n e y m al f.first.parent g.first.parent f.second.parent g.second.parent f.first.gives f.second.gives
stays_alike chosen a b (Put_bytes n place bytes before) al f g = bytes_alike a b n (File (written (file_of a n) place bytes)) (File (written (file_of b n) place bytes)) al (has_bytes a n _ (sym f.0) refl (no_names_file _ f.0)) (has_bytes b n _ (sym g.0) refl (no_names_file _ g.0)) (λ e. ap (λ o. File (written (file_of_inode o) place bytes)) e)
stays_alike chosen a b (Wipe n place count) al f g = bytes_alike a b n (File (written (file_of a n) place (replicate count 0))) (File (written (file_of b n) place (replicate count 0))) al (has_bytes a n _ (sym f.0) refl (no_names_file _ f.0)) (has_bytes b n _ (sym g.0) refl (no_names_file _ g.0)) (λ e. ap (λ o. File (written (file_of_inode o) place (replicate count 0))) e)
stays_alike chosen a b (Cut n before after) al f g = bytes_alike a b n (File (sized after (file_of a n))) (File (sized after (file_of b n))) al (has_bytes a n _ (sym f.0) refl (no_names_file _ f.0)) (has_bytes b n _ (sym g.0) refl (no_names_file _ g.0)) (λ e. ap (λ o. File (sized after (file_of_inode o))) e)
stays_alike chosen a b (Take p count) al f g = bytes_alike a b p (Pipe (drop count (pipe_of a p))) (Pipe (drop count (pipe_of b p))) al (has_bytes a p _ (sym f.0) refl (no_names_pipe _ f.0)) (has_bytes b p _ (sym g.0) refl (no_names_pipe _ g.0)) (λ e. ap (λ o. Pipe (drop count (pipe_of_inode o))) e)
stays_alike chosen a b (Append p bytes) al f g = bytes_alike a b p (Pipe (pipe_of a p ++ bytes)) (Pipe (pipe_of b p ++ bytes)) al (has_bytes a p _ (sym f.0) refl (no_names_pipe _ f.0)) (has_bytes b p _ (sym g.0) refl (no_names_pipe _ g.0)) (λ e. ap (λ o. Pipe (pipe_of_inode o ++ bytes)) e)
stays_alike chosen a b (Set_offset d place) al f g = subst (λ k. Alike k (set_offset d place (get b.descriptions d) b)) (sym (set_there a d place f.0 f.1)) (subst (Alike (with_offset d place f.0 a)) (sym (set_there b d place g.0 g.1)) (offset_alike a b d place f.0 g.0 al f.1 g.1))
stays_alike chosen a b (Set_rights n rights) al f g = rights_alike a b n rights al
stays_alike chosen a b (Open_inode i inode how q f) al can could = open_alike a b _ (number chosen inode) how q f al (al.inodes (number chosen inode) (rooted_reached a (number chosen inode) (λ none. absurd (can.named none))))
stays_alike chosen a b (Make_pipe i q f g) al can could = pipe_alike a b _ _ _ q f g al can.pipe could.pipe
stays_alike chosen a b (Share_slot q f d pipes) al can could = table_alike a b q (with_slot f d (process_of a q)) (with_slot f d (process_of b q)) a.made b.made al
    (ap (λ (ps : FinMap nat_cmp Process). insert ps q (with_slot f d (or_new (get ps q)))) al.processes) al.made
    (λ g e gives. elim (from_insert (table_of a q) f g d e gives) [
      | inl here ↦ subst (λ d. is_held a d ≡ true) here.1 (held_by a q can.from d can.held)
      | inr there ↦ held_by a q g e there.1
    ])
stays_alike chosen a b (Clear_slot q f pipes) al can could = table_alike a b q (without_slot f (process_of a q)) (without_slot f (process_of b q)) a.made b.made al
    (ap (λ (ps : FinMap nat_cmp Process). insert ps q (without_slot f (or_new (get ps q)))) al.processes) al.made
    (λ g e gives. held_by a q g e (from_remove (table_of a q) f g e gives).1)
stays_alike chosen a b (New_process child parent pipes) al can could = table_alike a b child (process_of a parent) (process_of b parent) child child al
    (ap (λ (ps : FinMap nat_cmp Process). insert ps child (or_new (get ps parent))) al.processes) refl
    (λ g e gives. held_by a parent g e gives)
stays_alike chosen a b (End_process q pipes) al can could = end_alike a b q al

pub all_alike : (chosen : List ℕ) (es : List Edit) (a b : Kernel) → Alike a b → FitsAll chosen a es → FitsAll chosen b es → Alike (all_applied chosen es a) (all_applied chosen es b)
all_alike chosen [] a b al f g = al
all_alike chosen (e ∷ es) a b al f g = all_alike chosen es (applied chosen e a) (applied chosen e b) (stays_alike chosen a b e al f.0 g.0) f.1 g.1
