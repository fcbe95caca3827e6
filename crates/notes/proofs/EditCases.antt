-- What an edit of today makes of each object.
use Rattle.std.specs.Prelude.{◌++◌, drop, replicate}
use Rattle.std.proofs.Common.{◌≡◌, ℕ, ◌+◌, ◌==◌, Bool, true, false, cond, List, [], Option, Some, None, refl, sym, ap, ◌∙◌, eq-eqb, ne_eqb, inl, inr}
use Rattle.std.specs.Ordering.{nat_cmp}
use Rattle.std.proofs.lemmas.Bool.{cases_eq}
use Rattle.model.specs.FiniteMap.{FinMap, get, insert, remove}
use Rattle.model.specs.State.{Name, Kernel, Inode, File, Directory, Pipe, Fixed_content, Process, Rights, Description, mapped, names_of_inode, file_of_inode, pipe_of_inode}
use Rattle.model.specs.Changes.{Edit, Which, Mode, Make_directory, Make_file, Make_fixed, Name_file, Unname_file, Unname_directory, Move, Put_bytes, Cut, Take, Append, Set_offset, Set_rights, Open_inode, Make_pipe, Share_slot, Clear_slot, New_process, End_process, Swap, Wipe}
use Rattle.model.specs.Changes.{Replaced, clear_name, number, applied, at_offset, at_start, or_new, set_inode, set_name, set_offset, sized, to_read, to_write, written, with_slot, without_slot}
use Rattle.model.proofs.Laws.{get_same, get_other}
use Rattle.notes.specs.declared.new_object.NewObject.{NewObject as What}
use Rattle.notes.specs.declared.new_object.NewObject.TheVariants.{Directory as Dir_made, File as File_made, Fixed as Fixed_made}
use Rattle.notes.specs.Steps.{Applies, IsFirst, IsLast, IsOne, made_at, name_noted, named_at, new_in, new_inode}

-- what holds of each edit that may come today
pub by_one : (P : Edit → Type 0)
    → ((d : ℕ) (x : Name) (i : ℕ) → P (Make_directory d x i))
    → ((d : ℕ) (x : Name) (i : ℕ) → P (Make_file d x i))
    → ((d : ℕ) (x : Name) (fixed : Fixed_content) (i : ℕ) → P (Make_fixed d x fixed i))
    → ((d : ℕ) (x : Name) (n : ℕ) → P (Unname_directory d x n))
    → ((d : ℕ) (x : Name) (n : ℕ) → P (Name_file d x n))
    → ((d : ℕ) (x : Name) (n : ℕ) → P (Unname_file d x n))
    → ((d : ℕ) (x : Name) (e : ℕ) (y : Name) (n : ℕ) (replaced : Replaced) → P (Move d x e y n replaced))
    → ((n place : ℕ) (bytes : List ℕ) (before : ℕ) → P (Put_bytes n place bytes before))
    → ((n before after : ℕ) → P (Cut n before after))
    → ((i : ℕ) (inode : Which) (mode : Mode) (pid f : ℕ) → P (Open_inode i inode mode pid f))
    → ((d place : ℕ) → P (Set_offset d place))
    → ((pid f : ℕ) (pipes : List ℕ) → P (Clear_slot pid f pipes))
    → ((pid f d : ℕ) (pipes : List ℕ) → P (Share_slot pid f d pipes))
    → ((p count : ℕ) → P (Take p count))
    → ((p : ℕ) (bytes : List ℕ) → P (Append p bytes))
    → ((i pid f g : ℕ) → P (Make_pipe i pid f g))
    → ((n : ℕ) (rights : Rights) → P (Set_rights n rights))
    → ((d : ℕ) (x : Name) (n e : ℕ) (y : Name) (m : ℕ) → P (Swap d x n e y m))
    → ((n place count : ℕ) → P (Wipe n place count))
    → (e : Edit) → IsOne e → P e
by_one P a b k c l u m d e f g h t v w z j exchange wipe (Make_directory p x i) one = a p x i
by_one P a b k c l u m d e f g h t v w z j exchange wipe (Make_file p x i) one = b p x i
by_one P a b k c l u m d e f g h t v w z j exchange wipe (Make_fixed p x fixed i) one = k p x fixed i
by_one P a b k c l u m d e f g h t v w z j exchange wipe (Unname_directory p x n) one = c p x n
by_one P a b k c l u m d e f g h t v w z j exchange wipe (Put_bytes n place bytes before) one = d n place bytes before
by_one P a b k c l u m d e f g h t v w z j exchange wipe (Cut n before after) one = e n before after
by_one P a b k c l u m d e f g h t v w z j exchange wipe (Open_inode i inode mode pid s) one = f i inode mode pid s
by_one P a b k c l u m d e f g h t v w z j exchange wipe (Set_offset o place) one = g o place
by_one P a b k c l u m d e f g h t v w z j exchange wipe (Clear_slot pid s pipes) one = h pid s pipes
by_one P a b k c l u m d e f g h t v w z j exchange wipe (Name_file p x n) one = l p x n
by_one P a b k c l u m d e f g h t v w z j exchange wipe (Unname_file p x n) one = u p x n
by_one P a b k c l u m d e f g h t v w z j exchange wipe (Move p x q y n replaced) one = m p x q y n replaced
by_one P a b k c l u m d e f g h t v w z j exchange wipe (Take p count) one = v p count
by_one P a b k c l u m d e f g h t v w z j exchange wipe (Append p bytes) one = w p bytes
by_one P a b k c l u m d e f g h t v w z j exchange wipe (Make_pipe i pid s r) one = z i pid s r
by_one P a b k c l u m d e f g h t v w z j exchange wipe (Set_rights n rights) one = j n rights
by_one P a b k c l u m d e f g h t v w z j exchange wipe (Share_slot pid s o pipes) one = t pid s o pipes
by_one P a b k c l u m d e f g h t v w z j exchange wipe (Swap p x n q y o) one = exchange p x n q y o
by_one P a b k c l u m d e f g h t v w z j exchange wipe (Wipe n place count) one = wipe n place count
by_one P a b k c l u m d e f g h t v w z j exchange wipe (New_process child parent pipes) (inl one) = absurd one
by_one P a b k c l u m d e f g h t v w z j exchange wipe (New_process child parent pipes) (inr one) = absurd one.1
by_one P a b k c l u m d e f g h t v w z j exchange wipe (End_process pid pipes) (inl one) = absurd one
by_one P a b k c l u m d e f g h t v w z j exchange wipe (End_process pid pipes) (inr one) = absurd one.1

-- what holds of each edit that may come first, and of each that may come last
pub first_cases : (P : Edit → Type 0)
    → ((d : ℕ) (x : Name) (i : ℕ) → i ≡ 0 → P (Make_directory d x i))
    → ((d : ℕ) (x : Name) (i : ℕ) → i ≡ 0 → P (Make_file d x i))
    → ((d : ℕ) (x : Name) (fixed : Fixed_content) (i : ℕ) → i ≡ 0 → P (Make_fixed d x fixed i))
    → ((d : ℕ) (x : Name) (n : ℕ) → P (Unname_directory d x n))
    → ((d : ℕ) (x : Name) (n : ℕ) → P (Name_file d x n))
    → ((d : ℕ) (x : Name) (n : ℕ) → P (Unname_file d x n))
    → ((d : ℕ) (x : Name) (e : ℕ) (y : Name) (n : ℕ) (replaced : Replaced) → P (Move d x e y n replaced))
    → ((n place : ℕ) (bytes : List ℕ) (before : ℕ) → P (Put_bytes n place bytes before))
    → ((n before after : ℕ) → P (Cut n before after))
    → ((p count : ℕ) → P (Take p count))
    → ((p : ℕ) (bytes : List ℕ) → P (Append p bytes))
    → ((i pid f g : ℕ) → i ≡ 0 → P (Make_pipe i pid f g))
    → ((n : ℕ) (rights : Rights) → P (Set_rights n rights))
    → ((d : ℕ) (x : Name) (n e : ℕ) (y : Name) (m : ℕ) → P (Swap d x n e y m))
    → ((n place count : ℕ) → P (Wipe n place count))
    → (e : Edit) → IsFirst e → P e
first_cases P a b k c l u m d e v w z j exchange wipe (Make_directory p x i) first = a p x i first
first_cases P a b k c l u m d e v w z j exchange wipe (Make_file p x i) first = b p x i first
first_cases P a b k c l u m d e v w z j exchange wipe (Make_fixed p x fixed i) first = k p x fixed i first
first_cases P a b k c l u m d e v w z j exchange wipe (Unname_directory p x n) first = c p x n
first_cases P a b k c l u m d e v w z j exchange wipe (Put_bytes n place bytes before) first = d n place bytes before
first_cases P a b k c l u m d e v w z j exchange wipe (Cut n before after) first = e n before after
first_cases P a b k c l u m d e v w z j exchange wipe (Open_inode i inode mode pid s) first = absurd first
first_cases P a b k c l u m d e v w z j exchange wipe (Set_offset o place) first = absurd first
first_cases P a b k c l u m d e v w z j exchange wipe (Clear_slot pid s pipes) first = absurd first
first_cases P a b k c l u m d e v w z j exchange wipe (Name_file p x n) first = l p x n
first_cases P a b k c l u m d e v w z j exchange wipe (Unname_file p x n) first = u p x n
first_cases P a b k c l u m d e v w z j exchange wipe (Move p x q y n replaced) first = m p x q y n replaced
first_cases P a b k c l u m d e v w z j exchange wipe (Take p count) first = v p count
first_cases P a b k c l u m d e v w z j exchange wipe (Append p bytes) first = w p bytes
first_cases P a b k c l u m d e v w z j exchange wipe (Make_pipe i pid s t) first = z i pid s t first.0
first_cases P a b k c l u m d e v w z j exchange wipe (Set_rights n rights) first = j n rights
first_cases P a b k c l u m d e v w z j exchange wipe (Share_slot pid s o pipes) first = absurd first
first_cases P a b k c l u m d e v w z j exchange wipe (Swap p x n q y o) first = exchange p x n q y o
first_cases P a b k c l u m d e v w z j exchange wipe (Wipe n place count) first = wipe n place count
first_cases P a b k c l u m d e v w z j exchange wipe (New_process child parent pipes) first = absurd first
first_cases P a b k c l u m d e v w z j exchange wipe (End_process pid pipes) first = absurd first

pub last_cases : (m : ℕ) (P : Edit → Type 0)
    → ((i : ℕ) (inode : Which) (mode : Mode) (pid f : ℕ) → i ≡ m → P (Open_inode i inode mode pid f))
    → ((d place : ℕ) → P (Set_offset d place))
    → ((pid f : ℕ) (pipes : List ℕ) → P (Clear_slot pid f pipes))
    → ((pid f d : ℕ) (pipes : List ℕ) → P (Share_slot pid f d pipes))
    → (e : Edit) → IsLast m e → P e
last_cases k P f g h t (Open_inode i inode mode pid s) last = f i inode mode pid s last.0
last_cases k P f g h t (Set_offset m place) last = g m place
last_cases k P f g h t (Clear_slot pid s pipes) last = h pid s pipes
last_cases k P f g h t (Make_directory p x i) last = absurd last
last_cases k P f g h t (Make_file p x i) last = absurd last
last_cases k P f g h t (Make_fixed p x fixed i) last = absurd last
last_cases k P f g h t (Unname_directory p x n) last = absurd last
last_cases k P f g h t (Put_bytes n place bytes before) last = absurd last
last_cases k P f g h t (Cut n before after) last = absurd last
last_cases k P f g h t (Name_file p x n) last = absurd last
last_cases k P f g h t (Unname_file p x n) last = absurd last
last_cases k P f g h t (Move p x q y n replaced) last = absurd last
last_cases k P f g h t (Take p count) last = absurd last
last_cases k P f g h t (Append p bytes) last = absurd last
last_cases k P f g h t (Make_pipe i pid s r) last = absurd last
last_cases k P f g h t (Set_rights n rights) last = absurd last
last_cases k P f g h t (Swap p x n q y o) last = absurd last
last_cases k P f g h t (Wipe n place count) last = absurd last
last_cases k P f g h t (Share_slot pid s o pipes) last = t pid s o pipes
last_cases k P f g h t (New_process child parent pipes) last = absurd last
last_cases k P f g h t (End_process pid pipes) last = absurd last

-- a value that changes as a function of what was there
pub changed_at : {X : Type 0} (m : FinMap nat_cmp X) (n q : ℕ) (f : Option X → X) → get (insert m n (f (get m n))) q ≡ cond (q == n) (Some (f (get m q))) (get m q)
changed_at m n q f = elim (cases_eq q n) [
  | inl same ↦ ap (get (insert m n (f (get m n)))) same ∙ get_same m n (f (get m n)) ∙ ap (λ t. Some (f (get m t))) (sym same) ∙ sym (ap (λ b. cond b (Some (f (get m q))) (get m q)) (eq-eqb q n same))
  | inr away ↦ get_other m n q (f (get m n)) away ∙ sym (ap (λ b. cond b (Some (f (get m q))) (get m q)) (ne_eqb q n away))
]

pub put_at : {X : Type 0} (m : FinMap nat_cmp X) (n q : ℕ) (v : X) → get (insert m n v) q ≡ cond (q == n) (Some v) (get m q)
put_at m n q v = changed_at m n q (λ o. v)

-- a new object with its name
made_applies : (what : What) (d : ℕ) (x : Name) (m : ℕ) (k : Kernel) (n : ℕ) → get (set_name d x m (set_inode m (new_inode what) k)).inodes n ≡ made_at what d x m n (get k.inodes n)
made_applies what d x m k n =
    changed_at (set_inode m (new_inode what) k).inodes d n (λ o. Directory (insert (names_of_inode o) x m))
    ∙ ap (λ (o : Option Inode). cond (n == d) (name_noted x (Some m) o) o) (put_at k.inodes m n (new_inode what))

-- a name that moves
moved_applies : (d : ℕ) (x : Name) (e : ℕ) (y : Name) (n : ℕ) (k : Kernel) (q : ℕ) → get (set_name e y n (clear_name d x k)).inodes q ≡ named_at e y (Some n) q (named_at d x None q (get k.inodes q))
moved_applies d x e y n k q =
    changed_at (clear_name d x k).inodes e q (λ o. Directory (insert (names_of_inode o) y n))
    ∙ ap (λ (o : Option Inode). cond (q == e) (name_noted y (Some n) o) o) (changed_at k.inodes d q (λ o. Directory (remove (names_of_inode o) x)))

-- two names that change places
swapped_applies : (d : ℕ) (x : Name) (n e : ℕ) (y : Name) (m : ℕ) (k : Kernel) (q : ℕ) → get (set_name e y n (set_name d x m k)).inodes q ≡ named_at e y (Some n) q (named_at d x (Some m) q (get k.inodes q))
swapped_applies d x n e y m k q =
    changed_at (set_name d x m k).inodes e q (λ o. Directory (insert (names_of_inode o) y n))
    ∙ ap (λ (o : Option Inode). cond (q == e) (name_noted y (Some n) o) o) (changed_at k.inodes d q (λ o. Directory (insert (names_of_inode o) x m)))

-- an offset, where there is such a description
offset_applies : (chosen : List ℕ) (d place : ℕ) (k : Kernel) (o : Option Description) → get k.descriptions d ≡ o → Applies chosen (Set_offset d place) k (set_offset d place o k)
offset_applies chosen d place k None is = record {
  root = refl;
  made = refl;
  bounds = refl;
  inodes = λ n. refl;
  rights = λ n. refl;
  descriptions = same;
  processes = λ pid. refl;
}
  where
    same : (e : ℕ) → get k.descriptions e ≡ cond (e == d) (mapped (at_offset place) (get k.descriptions e)) (get k.descriptions e)
    same e = elim (cases_eq e d) [
      | inl here ↦ ap (get k.descriptions) here ∙ is ∙ sym (ap (mapped (at_offset place)) (ap (get k.descriptions) here ∙ is)) ∙ sym (ap (λ b. cond b (mapped (at_offset place) (get k.descriptions e)) (get k.descriptions e)) (eq-eqb e d here))
      | inr away ↦ sym (ap (λ b. cond b (mapped (at_offset place) (get k.descriptions e)) (get k.descriptions e)) (ne_eqb e d away))
    ]
offset_applies chosen d place k (Some old) is = record {
  root = refl;
  made = refl;
  bounds = refl;
  inodes = λ n. refl;
  rights = λ n. refl;
  descriptions = moved;
  processes = λ pid. refl;
}
  where
    moved : (e : ℕ) → get (insert k.descriptions d (at_offset place old)) e ≡ cond (e == d) (mapped (at_offset place) (get k.descriptions e)) (get k.descriptions e)
    moved e = elim (cases_eq e d) [
      | inl here ↦
          ap (get (insert k.descriptions d (at_offset place old))) here ∙ get_same k.descriptions d (at_offset place old)
          ∙ sym (ap (mapped (at_offset place)) (ap (get k.descriptions) here ∙ is)) ∙ sym (ap (λ b. cond b (mapped (at_offset place) (get k.descriptions e)) (get k.descriptions e)) (eq-eqb e d here))
      | inr away ↦
          get_other k.descriptions d e (at_offset place old) away
          ∙ sym (ap (λ b. cond b (mapped (at_offset place) (get k.descriptions e)) (get k.descriptions e)) (ne_eqb e d away))
    ]

-- two descriptions, and two slots of one process
two_described : (m : FinMap nat_cmp Description) (r w d : ℕ) (a b : Description) → get (insert (insert m r a) w b) d ≡ cond (d == w) (Some b) (cond (d == r) (Some a) (get m d))
two_described m r w d a b = put_at (insert m r a) w d b ∙ ap (λ o. cond (d == w) (Some b) o) (put_at m r d a)

two_slotted : (m : FinMap nat_cmp Process) (pid f g r w q : ℕ)
    → get (insert (insert m pid (with_slot f r (or_new (get m pid)))) pid (with_slot g w (or_new (get (insert m pid (with_slot f r (or_new (get m pid)))) pid)))) q ≡ cond (q == pid) (Some (with_slot g w (with_slot f r (or_new (get m q))))) (get m q)
two_slotted m pid f g r w q =
    changed_at (insert m pid (with_slot f r (or_new (get m pid)))) pid q (λ o. with_slot g w (or_new o))
    ∙ ap (λ o. cond (q == pid) (Some (with_slot g w (or_new o))) o) (changed_at m pid q (λ o. with_slot f r (or_new o)))
    ∙ by_test (q == pid)
  where
    by_test : (b : Bool) → cond b (Some (with_slot g w (or_new (cond b (Some (with_slot f r (or_new (get m q)))) (get m q))))) (cond b (Some (with_slot f r (or_new (get m q)))) (get m q)) ≡ cond b (Some (with_slot g w (with_slot f r (or_new (get m q))))) (get m q)
    by_test true = refl
    by_test false = refl

pub applies : (chosen : List ℕ) (e : Edit) → IsOne e → (k : Kernel) → Applies chosen e k (applied chosen e k)
unfolding applied
applies chosen e one k = by_one (λ e. Applies chosen e k (applied chosen e k))
    (λ d x i. record {
      root = refl;
      made = refl;
      bounds = refl;
      inodes = made_applies Dir_made d x (new_in chosen i) k;
      rights = λ n. refl;
      descriptions = λ d. refl;
      processes = λ pid. refl;
    })
    (λ d x i. record {
      root = refl;
      made = refl;
      bounds = refl;
      inodes = made_applies File_made d x (new_in chosen i) k;
      rights = λ n. refl;
      descriptions = λ d. refl;
      processes = λ pid. refl;
    })
    (λ d x fixed i. record {
      root = refl;
      made = refl;
      bounds = refl;
      inodes = made_applies (Fixed_made fixed) d x (new_in chosen i) k;
      rights = λ n. refl;
      descriptions = λ d. refl;
      processes = λ pid. refl;
    })
    (λ d x n. record {
      root = refl;
      made = refl;
      bounds = refl;
      inodes = λ q. changed_at k.inodes d q (λ o. Directory (remove (names_of_inode o) x));
      rights = λ n. refl;
      descriptions = λ d. refl;
      processes = λ pid. refl;
    })
    (λ d x n. record {
      root = refl;
      made = refl;
      bounds = refl;
      inodes = λ q. changed_at k.inodes d q (λ o. Directory (insert (names_of_inode o) x n));
      rights = λ n. refl;
      descriptions = λ d. refl;
      processes = λ pid. refl;
    })
    (λ d x n. record {
      root = refl;
      made = refl;
      bounds = refl;
      inodes = λ q. changed_at k.inodes d q (λ o. Directory (remove (names_of_inode o) x));
      rights = λ n. refl;
      descriptions = λ d. refl;
      processes = λ pid. refl;
    })
    (λ d x e y n replaced. record {
      root = refl;
      made = refl;
      bounds = refl;
      inodes = moved_applies d x e y n k;
      rights = λ n. refl;
      descriptions = λ d. refl;
      processes = λ pid. refl;
    })
    (λ n place bytes before. record {
      root = refl;
      made = refl;
      bounds = refl;
      inodes = λ q. changed_at k.inodes n q (λ o. File (written (file_of_inode o) place bytes));
      rights = λ n. refl;
      descriptions = λ d. refl;
      processes = λ pid. refl;
    })
    (λ n before after. record {
      root = refl;
      made = refl;
      bounds = refl;
      inodes = λ q. changed_at k.inodes n q (λ o. File (sized after (file_of_inode o)));
      rights = λ n. refl;
      descriptions = λ d. refl;
      processes = λ pid. refl;
    })
    (λ i inode mode pid f. record {
      root = refl;
      made = refl;
      bounds = refl;
      inodes = λ n. refl;
      rights = λ n. refl;
      descriptions = λ d. put_at k.descriptions (new_in chosen i) d (at_start (number chosen inode) mode);
      processes = λ q. changed_at k.processes pid q (λ o. with_slot f (new_in chosen i) (or_new o));
    })
    (λ d place. offset_applies chosen d place k (get k.descriptions d) refl)
    (λ pid f pipes. record {
      root = refl;
      made = refl;
      bounds = refl;
      inodes = λ n. refl;
      rights = λ n. refl;
      descriptions = λ d. refl;
      processes = λ q. changed_at k.processes pid q (λ o. without_slot f (or_new o));
    })
    (λ pid f d pipes. record {
      root = refl;
      made = refl;
      bounds = refl;
      inodes = λ n. refl;
      rights = λ n. refl;
      descriptions = λ e. refl;
      processes = λ q. changed_at k.processes pid q (λ o. with_slot f d (or_new o));
    })
    (λ p count. record {
      root = refl;
      made = refl;
      bounds = refl;
      inodes = λ q. changed_at k.inodes p q (λ o. Pipe (drop count (pipe_of_inode o)));
      rights = λ n. refl;
      descriptions = λ d. refl;
      processes = λ pid. refl;
    })
    (λ p bytes. record {
      root = refl;
      made = refl;
      bounds = refl;
      inodes = λ q. changed_at k.inodes p q (λ o. Pipe (pipe_of_inode o ++ bytes));
      rights = λ n. refl;
      descriptions = λ d. refl;
      processes = λ pid. refl;
    })
    (λ i pid f g. record {
      root = refl;
      made = refl;
      bounds = refl;
      inodes = λ q. put_at k.inodes (new_in chosen i) q (Pipe []);
      rights = λ n. refl;
      descriptions = λ d. two_described k.descriptions (new_in chosen (i + 1)) (new_in chosen (i + 2)) d (at_start (new_in chosen i) to_read) (at_start (new_in chosen i) to_write);
      processes = two_slotted k.processes pid f g (new_in chosen (i + 1)) (new_in chosen (i + 2));
    })
    (λ n rights. record {
      root = refl;
      made = refl;
      bounds = refl;
      inodes = λ q. refl;
      rights = λ q. put_at k.rights n q rights;
      descriptions = λ d. refl;
      processes = λ pid. refl;
    })
    (λ d x n e y m. record {
      root = refl;
      made = refl;
      bounds = refl;
      inodes = swapped_applies d x n e y m k;
      rights = λ n. refl;
      descriptions = λ d. refl;
      processes = λ pid. refl;
    })
    (λ n place count. record {
      root = refl;
      made = refl;
      bounds = refl;
      inodes = λ q. changed_at k.inodes n q (λ o. File (written (file_of_inode o) place (replicate count 0)));
      rights = λ n. refl;
      descriptions = λ d. refl;
      processes = λ pid. refl;
    })
    e one
