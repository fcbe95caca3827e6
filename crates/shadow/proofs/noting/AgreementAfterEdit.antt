-- What a transaction keeps agrees with its edits, and still does after one edit more.
use Rattle.std.proofs.Common.{◌≡◌, ◌≢◌, ◌↔◌, ℕ, ◌+◌, ◌<◌, ◌≤◌, ◌==◌, true, cond, Contains, length, is_some, List, [], ◌∷◌, ◌++◌, append_assoc, append-nil, Option, Some, None, refl, sym, ap, subst, ◌∙◌, arith, inl, inr, ◌⊎◌}
use Rattle.std.specs.List.{AllByRecursion, flat_map}
use Rattle.std.proofs.lemmas.List.Elements.{Contains-append_cases, Contains-append_left, Contains-append_right}
use Rattle.std.proofs.lemmas.List.Sums.{sum_by-append}
use Rattle.model.specs.FiniteMap.{get}
use Rattle.model.specs.State.{A_pipe, pipe_of_inode, Kernel, Inode, kind, kind_of, mapped}
use Rattle.model.specs.Changes.{Append, Edit, Make_pipe, Take, all_applied, applied}
use Rattle.model.specs.Moments.{is_alive, is_in}
use Rattle.call_laws.specs.Fits.{Fits, FitsAll}
use Rattle.call_laws.specs.WellFormed.{WellFormed}
use Rattle.call_laws.proofs.Laws.{well_stays}
use Rattle.freeing_laws.specs.Pipes.{ArePair}
use Rattle.freeing_laws.proofs.Pipes.{pipes_keep_their_ends_lem}
use Rattle.freeing_laws.specs.Counts.{named, times, unnamed}
use Rattle.freeing_laws.specs.Left.{all_named, all_unnamed}
use Rattle.notes.specs.declared.change.Contents.{Contents}
use Rattle.notes.specs.declared.change.Contents.TheVariants.{Same, Names, Bytes, Pipe as Piped, Fixed as As_fixed}
use Rattle.shadow.specs.Agrees.{IsOver, IsOverDescription}
use Rattle.notes.specs.Patches.{AllReach, new_ends, no_change, Patches, added_by, form_of, kept_at, net_at, numbers_in, opening_at, patched, reopened, reslotted, reslotted_by, rights_over, slots_in}
use Rattle.notes.specs.Steps.{CanPass, MakesPipe, Applies, AreApart, IsOne, TakesAll, TakesIn, blocks_by, description_after, inode_after, made_after, new_in, numbers_kept, opened_in, parents_in, process_after, rights_after}
use Rattle.notes.proofs.Laws.{applies}
use Rattle.shadow.proofs.noting.InodeForms.{over_after, kept_same, still_before}
use Rattle.shadow.proofs.noting.DescriptionForms.{moved_there, moved_over, lives_before, alive_over}

-- the same as `Agrees` but for the claims, of a change of states that fits some, gives inodes so many
-- names, takes names from these, and writes into these blocks
pub record Along (done : Kernel → Kernel) (Fit : Kernel → Type 0) (given : ℕ → ℕ) (gone : List ℕ) (Wrote : ℕ → ℕ → Type 0) (p : Patches) : Type 0 where
  pub root : (k : Kernel) → (done k).root ≡ k.root
  pub count : (k : Kernel) → (done k).made ≡ k.made
  pub bounds : (k : Kernel) → (done k).bounds ≡ k.bounds
  pub inodes : (k : Kernel) (n : ℕ) → Fit k → get (done k).inodes n ≡ patched (net_at p.inodes n).contents (get k.inodes n)
  pub rights : (k : Kernel) (n : ℕ) → get (done k).rights n ≡ rights_over (kept_at p.rights n) (get k.rights n)
  pub descriptions : (k : Kernel) (d : ℕ) → get (done k).descriptions d ≡ reopened (opening_at p.openings d) (get k.descriptions d)
  pub processes : (k : Kernel) (pid : ℕ) → get (done k).processes pid ≡ reslotted (kept_at p.slots pid) (get k.processes pid)
  pub named : (n : ℕ) → given n ≡ (net_at p.inodes n).named
  pub unnamed : (n : ℕ) → times n p.unnamed_inodes ≡ (net_at p.inodes n).unnamed
  pub unnamed_inodes : gone ≡ p.unnamed_inodes
  pub added : (n : ℕ) → added_by (net_at p.inodes n).contents ≤ (net_at p.inodes n).promised
  pub still : (n : ℕ) → form_of (net_at p.inodes n).contents ≡ no_change → (net_at p.inodes n).promised ≡ 0
  pub kinds : (k : Kernel) (n : ℕ) → Fit k → IsOver (kind_of k n) (net_at p.inodes n).made (form_of (net_at p.inodes n).contents)
  pub written : (k : Kernel) (n b : ℕ) → Fit k → Contains (numbers_in (net_at p.inodes n).contents) b ↔ Wrote n b
  pub moved : (k : Kernel) (d : ℕ) → Fit k → IsOverDescription (opening_at p.openings d) (is_some (get k.descriptions d))
  pub reach : (k : Kernel) (n : ℕ) → Fit k → AllReach (net_at p.inodes n).contents (get k.inodes n)
  pub well : (k : Kernel) → Fit k → WellFormed k → WellFormed (done k)
  pub pipes : (k : Kernel) (n : ℕ) (ends : ℕ × ℕ) → new_ends (net_at p.inodes n).contents ≡ Some ends → WellFormed k → Fit k → ArePair (done k).descriptions n ends.0 ends.1
  pub alive : (k : Kernel) (pid : ℕ) → Fit k → slots_in (kept_at p.slots pid) ≢ [] → is_alive k pid ≡ true

-- what bytes of a pipe ask of the changes before is so where the edit fits
can_pass : (chosen : List ℕ) (e : Edit) (mid : Kernel) → Fits chosen mid e → (n : ℕ) (o : Option Inode) (c : Contents) → get mid.inodes n ≡ patched c o → AllReach c o → CanPass e n c o
can_pass chosen (Take p count) mid f n o c is reach = λ same. record {
  kind = ap (mapped kind) (sym is) ∙ ap (kind_of mid) same ∙ f.0;
  long = subst (λ x. count ≤ length (pipe_of_inode x)) (sym (ap (get mid.inodes) same) ∙ is) f.1;
  reach = reach;
}
can_pass chosen (Append p bytes) mid f n o c is reach = λ same. record {
  kind = ap (mapped kind) (sym is) ∙ ap (kind_of mid) same ∙ f.0;
  long = omega arith;
  reach = reach;
}
can_pass chosen _ mid f n o c is reach = tt

-- the two descriptions of a new pipe
shows_pipe : (c : Contents) (ends : ℕ × ℕ) → new_ends c ≡ Some ends → (o : Option Inode) → mapped kind (patched c o) ≡ Some A_pipe
shows_pipe Same ends is o = absurd cc
shows_pipe (Names fresh notes) ends is o = absurd cc
shows_pipe (Bytes fresh bytes) ends is o = absurd cc
shows_pipe (Piped fresh changes) ends is o = refl
shows_pipe (As_fixed fixed) ends is o = absurd cc

made_pair : (chosen : List ℕ) (e : Edit) (mid : Kernel) → WellFormed mid → Fits chosen mid e → (n : ℕ) (ends : ℕ × ℕ) → MakesPipe chosen e n ends → ArePair (applied chosen e mid).descriptions n ends.0 ends.1
made_pair chosen (Make_pipe i pid f g) mid well fit n ends is =
    subst (λ (pair : ℕ × ℕ). ArePair (applied chosen (Make_pipe i pid f g) mid).descriptions n pair.0 pair.1) (sym is.1)
    (subst (λ m. ArePair (applied chosen (Make_pipe i pid f g) mid).descriptions m (new_in chosen (i + 1)) (new_in chosen (i + 2))) (sym is.0)
    (pipes_keep_their_ends_lem.made chosen mid i pid f g well fit))
made_pair chosen _ mid well fit n ends is = absurd is

-- one edit more
pub along_step : (done : Kernel → Kernel) (Fit : Kernel → Type 0) (given : ℕ → ℕ) (gone : List ℕ) (Wrote : ℕ → ℕ → Type 0) (p q : Patches) (chosen : List ℕ) (e : Edit)
    → IsOne e → AreApart chosen e → TakesIn chosen e p q → Along done Fit given gone Wrote p
    → Along (λ k. applied chosen e (done k)) (λ k. Fit k × Fits chosen (done k) e) (λ n. given n + times n (named chosen e)) (gone ++ unnamed e) (λ n b. Wrote n b ⊎ Contains (blocks_by n e) b) q
along_step done Fit given gone Wrote p q chosen e one apart t a = record {
  root = λ k. (step k).root ∙ a.root k;
  count = λ k. (step k).made ∙ a.count k;
  bounds = λ k. (step k).bounds ∙ a.bounds k;
  inodes = λ k n fit. (step k).inodes n ∙ ap (inode_after chosen e n) (a.inodes k n fit.0) ∙ sym (t.inodes n (get k.inodes n) (passes k n fit));
  reach = λ k n fit. t.reach n (get k.inodes n) (passes k n fit) (a.reach k n fit.0);
  well = λ k fit well. well_stays chosen (done k) e (a.well k fit.0 well) fit.1;
  pipes = λ k n ends is well fit. elim (t.pipes n ends is) [
    | inl was ↦ pipes_keep_their_ends_lem.keeps chosen (done k) e fit.1 n ends.0 ends.1 (ap (mapped kind) (a.inodes k n fit.0) ∙ shows_pipe (net_at p.inodes n).contents ends was (get k.inodes n)) (a.pipes k n ends was well fit.0)
    | inr made ↦ made_pair chosen e (done k) (a.well k fit.0 well) fit.1 n ends made
  ];
  rights = λ k n. (step k).rights n ∙ ap (rights_after e n) (a.rights k n) ∙ sym (t.rights n (get k.rights n));
  descriptions = λ k d. (step k).descriptions d ∙ ap (description_after chosen e d) (a.descriptions k d) ∙ sym (t.descriptions d (get k.descriptions d));
  processes = λ k pid. (step k).processes pid ∙ ap (process_after chosen e pid) (a.processes k pid) ∙ sym (t.processes pid (get k.processes pid));
  named = λ n. ap (λ m. m + times n (named chosen e)) (a.named n) ∙ sym (t.named n);
  unnamed = λ n. ap (times n) t.unnamed_inodes ∙ sum_by-append (λ v. cond (v == n) 1 0) p.unnamed_inodes (unnamed e) ∙ ap (λ m. m + times n (unnamed e)) (a.unnamed n) ∙ sym (t.unnamed n);
  unnamed_inodes = ap (λ xs. xs ++ unnamed e) a.unnamed_inodes ∙ sym t.unnamed_inodes;
  added = added;
  still = λ n none. (
      let before = still_before chosen e one n (form_of (net_at p.inodes n).contents) (sym (t.forms n) ∙ none) in
      let was : (net_at p.inodes n).promised ≡ 0 = a.still n before.0 in
      let more : times n (parents_in e) ≡ 0 = before.1 in
      let now : (net_at q.inodes n).promised ≡ (net_at p.inodes n).promised + times n (parents_in e) = t.promised n in omega arith);
  kinds = λ k n fit.
      subst (λ m. IsOver (kind_of k n) m (form_of (net_at q.inodes n).contents)) (sym (t.made n))
      (subst (λ f. IsOver (kind_of k n) (made_after chosen e n (net_at p.inodes n).made) f) (sym (t.forms n))
      (over_after chosen e one apart (done k) fit.1 n (get k.inodes n) (net_at p.inodes n).made (net_at p.inodes n).contents (a.inodes k n fit.0) (a.kinds k n fit.0)));
  written = λ k n b fit. (there k n b fit, back k n b fit);
  moved = λ k d fit.
      moved_over (opening_at q.openings d) (opening_at p.openings d) (is_some (get k.descriptions d)) (is_in d (opened_in chosen e)) (t.news d) (a.moved k d fit.0)
      (λ place new old away. moved_there chosen e one (done k) fit.1 d place (get k.descriptions d) (a.descriptions k d ∙ ap (λ o. reopened o (get k.descriptions d)) old) away
      (λ o. ap (λ it. reopened it o) (sym new) ∙ t.descriptions d o ∙ ap (λ it. description_after chosen e d (reopened it o)) old));
  alive = λ k pid fit some.
      alive_over (slots_in (kept_at q.slots pid)) (slots_in (kept_at p.slots pid)) (get k.processes pid) some (a.alive k pid fit.0)
      (λ old new. lives_before chosen e one (done k) fit.1 pid (get k.processes pid) (a.processes k pid ∙ ap (λ gs. reslotted_by gs (get k.processes pid)) old)
      (λ none. new (t.processes pid None ∙ ap (λ gs. process_after chosen e pid (reslotted_by gs None)) old ∙ none)));
}
  where
    step : (k : Kernel) → Applies chosen e (done k) (applied chosen e (done k))
    step k = applies chosen e one (done k)

    passes : (k : Kernel) (n : ℕ) → Fit k × Fits chosen (done k) e → CanPass e n (net_at p.inodes n).contents (get k.inodes n)
    passes k n fit = can_pass chosen e (done k) fit.1 n (get k.inodes n) (net_at p.inodes n).contents (a.inodes k n fit.0) (a.reach k n fit.0)

    added : (n : ℕ) → added_by (net_at q.inodes n).contents ≤ (net_at q.inodes n).promised
    added n =
        let more : added_by (net_at q.inodes n).contents ≤ added_by (net_at p.inodes n).contents + times n (parents_in e) = t.added n in
        let room : (net_at q.inodes n).promised ≡ (net_at p.inodes n).promised + times n (parents_in e) = t.promised n in
        let before : added_by (net_at p.inodes n).contents ≤ (net_at p.inodes n).promised = a.added n in omega arith

    kept : (k : Kernel) (n : ℕ) → Fit k × Fits chosen (done k) e → numbers_kept chosen e n (numbers_in (net_at p.inodes n).contents) ≡ numbers_in (net_at p.inodes n).contents
    kept k n fit = kept_same chosen e one (done k) fit.1 n (get k.inodes n) (net_at p.inodes n).contents (a.inodes k n fit.0)

    there : (k : Kernel) (n b : ℕ) → Fit k × Fits chosen (done k) e → Contains (numbers_in (net_at q.inodes n).contents) b → Wrote n b ⊎ Contains (blocks_by n e) b
    there k n b fit has = elim (Contains-append_cases (numbers_in (net_at p.inodes n).contents) (blocks_by n e) b (subst (λ ns. Contains (ns ++ blocks_by n e) b) (kept k n fit) ((t.written n b).0 has))) [
      | inl old ↦ inl ((a.written k n b fit.0).0 old)
      | inr new ↦ inr new
    ]

    back : (k : Kernel) (n b : ℕ) → Fit k × Fits chosen (done k) e → Wrote n b ⊎ Contains (blocks_by n e) b → Contains (numbers_in (net_at q.inodes n).contents) b
    back k n b fit has = (t.written n b).1 (subst (λ ns. Contains (ns ++ blocks_by n e) b) (sym (kept k n fit)) (by_part has))
      where
        by_part : Wrote n b ⊎ Contains (blocks_by n e) b → Contains (numbers_in (net_at p.inodes n).contents ++ blocks_by n e) b
        by_part (inl old) = Contains-append_left (numbers_in (net_at p.inodes n).contents) (blocks_by n e) b ((a.written k n b fit.0).1 old)
        by_part (inr new) = Contains-append_right (numbers_in (net_at p.inodes n).contents) (blocks_by n e) b new

-- the same with other names
pub along_same : (done other : Kernel → Kernel) (Fit Fits' : Kernel → Type 0) (given given' : ℕ → ℕ) (gone gone' : List ℕ) (Wrote Wrote' : ℕ → ℕ → Type 0) (p : Patches)
    → ((k : Kernel) → other k ≡ done k) → ((k : Kernel) → Fits' k → Fit k) → ((n : ℕ) → given' n ≡ given n) → (gone' ≡ gone) → ((n b : ℕ) → Wrote n b ↔ Wrote' n b)
    → Along done Fit given gone Wrote p → Along other Fits' given' gone' Wrote' p
along_same done other Fit Fits' given given' gone gone' Wrote Wrote' p same fits is left wrote a = record {
  root = λ k. ap (λ (k : Kernel). k.root) (same k) ∙ a.root k;
  count = λ k. ap (λ (k : Kernel). k.made) (same k) ∙ a.count k;
  bounds = λ k. ap (λ (k : Kernel). k.bounds) (same k) ∙ a.bounds k;
  inodes = λ k n fit. ap (λ (k : Kernel). get k.inodes n) (same k) ∙ a.inodes k n (fits k fit);
  rights = λ k n. ap (λ (k : Kernel). get k.rights n) (same k) ∙ a.rights k n;
  descriptions = λ k d. ap (λ (k : Kernel). get k.descriptions d) (same k) ∙ a.descriptions k d;
  processes = λ k pid. ap (λ (k : Kernel). get k.processes pid) (same k) ∙ a.processes k pid;
  named = λ n. is n ∙ a.named n;
  unnamed = a.unnamed;
  unnamed_inodes = left ∙ a.unnamed_inodes;
  added = a.added;
  still = a.still;
  kinds = λ k n fit. a.kinds k n (fits k fit);
  written = λ k n b fit. (λ has. (wrote n b).0 ((a.written k n b (fits k fit)).0 has), λ has. (a.written k n b (fits k fit)).1 ((wrote n b).1 has));
  moved = λ k d fit. a.moved k d (fits k fit);
  reach = λ k n fit. a.reach k n (fits k fit);
  well = λ k fit well. subst WellFormed (sym (same k)) (a.well k (fits k fit) well);
  pipes = λ k n ends is well fit. subst (λ (later : Kernel). ArePair later.descriptions n ends.0 ends.1) (sym (same k)) (a.pipes k n ends is well (fits k fit));
  alive = λ k pid fit. a.alive k pid (fits k fit);
}

-- all edits of a call
pub along_all : (chosen : List ℕ) (es : List Edit) → AllByRecursion (λ e. IsOne e × AreApart chosen e) es
    → (done : Kernel → Kernel) (Fit : Kernel → Type 0) (given : ℕ → ℕ) (gone : List ℕ) (Wrote : ℕ → ℕ → Type 0) (p q : Patches) → TakesAll chosen es p q → Along done Fit given gone Wrote p
    → Along (λ k. all_applied chosen es (done k)) (λ k. Fit k × FitsAll chosen (done k) es) (λ n. given n + times n (all_named chosen es)) (gone ++ all_unnamed es)
    (λ n b. Wrote n b ⊎ Contains (flat_map (blocks_by n) es) b) q
along_all chosen [] all done Fit given gone Wrote p q t a =
    along_same done done Fit (λ k. Fit k × FitsAll chosen (done k) []) given (λ n. given n + times n []) gone (gone ++ []) Wrote (λ n b. Wrote n b ⊎ Contains [] b) q
    (λ k. refl) (λ k fit. fit.0) (λ n. omega arith) (append-nil gone) (λ n b. (λ has. inl has, λ has. by_part n b has)) (subst (Along done Fit given gone Wrote) t a)
  where
    by_part : (n b : ℕ) → Wrote n b ⊎ Contains [] b → Wrote n b
    by_part n b (inl old) = old
    by_part n b (inr new) = absurd (let low : new.0 < 0 = new.1 in omega arith)
along_all chosen (e ∷ es) all done Fit given gone Wrote p q t a =
    along_same (λ k. all_applied chosen es (applied chosen e (done k))) (λ k. all_applied chosen (e ∷ es) (done k))
    (λ k. (Fit k × Fits chosen (done k) e) × FitsAll chosen (applied chosen e (done k)) es) (λ k. Fit k × FitsAll chosen (done k) (e ∷ es))
    (λ n. (given n + times n (named chosen e)) + times n (all_named chosen es)) (λ n. given n + times n (all_named chosen (e ∷ es)))
    ((gone ++ unnamed e) ++ all_unnamed es) (gone ++ all_unnamed (e ∷ es))
    (λ n b. (Wrote n b ⊎ Contains (blocks_by n e) b) ⊎ Contains (flat_map (blocks_by n) es) b) (λ n b. Wrote n b ⊎ Contains (flat_map (blocks_by n) (e ∷ es)) b) q
    (λ k. refl) (λ k fit. ((fit.0, fit.1.0), fit.1.1))
    (λ n. (let both : times n (named chosen e ++ all_named chosen es) ≡ times n (named chosen e) + times n (all_named chosen es) = sum_by-append (λ v. cond (v == n) 1 0) (named chosen e) (all_named chosen es) in omega arith))
    (sym (append_assoc gone (unnamed e) (all_unnamed es)))
    (λ n b. (there n b, back n b))
    (along_all chosen es all.1 (λ k. applied chosen e (done k)) (λ k. Fit k × Fits chosen (done k) e) (λ n. given n + times n (named chosen e)) (gone ++ unnamed e) (λ n b. Wrote n b ⊎ Contains (blocks_by n e) b) t.0 q t.2
    (along_step done Fit given gone Wrote p t.0 chosen e all.0.0 all.0.1 t.1 a))
  where
    there : (n b : ℕ) → (Wrote n b ⊎ Contains (blocks_by n e) b) ⊎ Contains (flat_map (blocks_by n) es) b → Wrote n b ⊎ Contains (blocks_by n e ++ flat_map (blocks_by n) es) b
    there n b (inl (inl old)) = inl old
    there n b (inl (inr now)) = inr (Contains-append_left (blocks_by n e) (flat_map (blocks_by n) es) b now)
    there n b (inr later) = inr (Contains-append_right (blocks_by n e) (flat_map (blocks_by n) es) b later)

    part : (n b : ℕ) → Contains (blocks_by n e) b ⊎ Contains (flat_map (blocks_by n) es) b → (Wrote n b ⊎ Contains (blocks_by n e) b) ⊎ Contains (flat_map (blocks_by n) es) b
    part n b (inl now) = inl (inr now)
    part n b (inr later) = inr later

    back : (n b : ℕ) → Wrote n b ⊎ Contains (blocks_by n e ++ flat_map (blocks_by n) es) b → (Wrote n b ⊎ Contains (blocks_by n e) b) ⊎ Contains (flat_map (blocks_by n) es) b
    back n b (inl old) = inl (inl old)
    back n b (inr new) = part n b (Contains-append_cases (blocks_by n e) (flat_map (blocks_by n) es) b new)
