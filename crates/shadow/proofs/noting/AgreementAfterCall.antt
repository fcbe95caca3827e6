-- What a transaction keeps agrees with its changes, and still does after one call more.
use Rattle.std.proofs.Common.{◌≡◌, ◌↔◌, ℕ, ◌+◌, ◌==◌, ◌≤◌, Bool, true, cond, Contains, length, sum_by, List, [], ◌∷◌, ◌++◌, append_assoc, append-nil, Option, None, is_some, refl, sym, ap, ap₂, subst, ◌∙◌, arith, inl, inr, ◌⊎◌}
use Rattle.std.specs.List.{AllByRecursion, flat_map}
use Rattle.std.proofs.lemmas.List.Elements.{Contains-append_cases, Contains-append_left, Contains-append_right}
use Rattle.std.proofs.lemmas.List.Sums.{sum_by-append, sum_by_push}
use Rattle.model.specs.FiniteMap.{get}
use Rattle.model.specs.State.{Kernel, kind_of}
use Rattle.model.specs.Changes.{Edit, all_applied, news}
use Rattle.model.specs.Effects.{Effect, all_done}
use Rattle.model.specs.Moments.{is_in}
use Rattle.model.specs.Steps.{AllDifferent}
use Rattle.call_laws.specs.Fits.{FitsAll}
use Rattle.freeing_laws.specs.Counts.{times}
use Rattle.freeing_laws.specs.Left.{all_named, all_unnamed, named_along, unnamed_along}
use Rattle.freeing_laws.specs.Sweep.{AllFit}
use Rattle.shadow.specs.Agrees.{Agrees, IsOver, IsOverDescription, blocks_written}
use Rattle.shadow.specs.Claims.{AreUnused, Claim, Covers, KeepsMore, KeepsSame, Room, New_directory, Number, as_count, claim_in, claimed, claimed_by, claimed_in, is_directory_made, kinds_in, number_of, reserved, with_kinds}
use Rattle.shadow.specs.Committed.{Committed}
use Rattle.notes.specs.Log.{effect}
use Rattle.notes.specs.Notes.{SamePatches}
use Rattle.freeing_laws.proofs.Laws.{sweep_is_tidy_lem}
use Rattle.notes.specs.Patches.{AllReach, new_ends, Net, Patches, added_by, form_of, is_new, kept_at, net_at, numbers_in, patched, reopened, reslotted_by, rights_over, slots_in}
use Rattle.notes.specs.Steps.{AreApart, CanEdit, IsOne, TakesAll, blocks_by, parents_in}
use Rattle.shadow.proofs.noting.AgreementAfterEdit.{Along, along_all, along_same}
use Rattle.shadow.proofs.claims.EditClaims.{AreFree, all_one, claims_more, other_claims}

-- nothing is changed
pub agrees_none : Agrees [] (record { inodes = []; rights = []; openings = []; slots = []; unnamed_inodes = [] })
agrees_none = record {
  root = λ k. refl;
  count = λ k. refl;
  bounds = λ k. refl;
  inodes = λ k n fit. refl;
  rights = λ k n. refl;
  descriptions = λ k d. refl;
  processes = λ k pid. refl;
  named = λ n. refl;
  unnamed = λ n. refl;
  unnamed_inodes = refl;
  claims = none;
  added = λ n. omega arith;
  still = λ n none. refl;
  kinds = λ k n f. tt;
  written = λ k n b f. (λ has. has, λ has. has);
  moved = λ k d f. tt;
  reach = λ k n f. tt;
  pipes = λ k n ends is well f. absurd cc;
  alive = λ k pid f some. absurd (some refl);
}
  where
    none : (c : Claim) → claimed c [] ≡ claim_in (record { inodes = []; rights = []; openings = []; slots = []; unnamed_inodes = [] }) c
    none (Room d) = refl
    none (New_directory n) = refl
    none (Number n) = refl

-- effects in a row, and one more
pub done_more : (ds : List Effect) (d : Effect) (k : Kernel) → all_done (ds ++ d ∷ []) k ≡ all_applied d.chosen d.edits (all_done ds k)
done_more [] d k = refl
done_more (x ∷ ds) d k = done_more ds d (all_applied x.chosen x.edits k)

pub fit_split : (ds : List Effect) (d : Effect) (k : Kernel) → AllFit (ds ++ d ∷ []) k → AllFit ds k × FitsAll d.chosen (all_done ds k) d.edits
fit_split [] d k f = (tt, f.0)
fit_split (x ∷ ds) d k f = let rest = fit_split ds d (all_applied x.chosen x.edits k) f.1 in ((f.0, rest.0), rest.1)

named_more : (n : ℕ) (ds : List Effect) (d : Effect) → times n (named_along (ds ++ d ∷ [])) ≡ times n (named_along ds) + times n (all_named d.chosen d.edits)
named_more n [] d = ap (times n) (append-nil (all_named d.chosen d.edits)) ∙ omega arith
named_more n (x ∷ ds) d =
    let now : List ℕ = all_named x.chosen x.edits in
    let more : times n (now ++ named_along (ds ++ d ∷ [])) ≡ times n now + times n (named_along (ds ++ d ∷ [])) = sum_by-append (λ v. cond (v == n) 1 0) now (named_along (ds ++ d ∷ [])) in
    let old : times n (now ++ named_along ds) ≡ times n now + times n (named_along ds) = sum_by-append (λ v. cond (v == n) 1 0) now (named_along ds) in
    let rest : times n (named_along (ds ++ d ∷ [])) ≡ times n (named_along ds) + times n (all_named d.chosen d.edits) = named_more n ds d in omega arith

unnamed_more : (ds : List Effect) (d : Effect) → unnamed_along (ds ++ d ∷ []) ≡ unnamed_along ds ++ all_unnamed d.edits
unnamed_more [] d = append-nil (all_unnamed d.edits)
unnamed_more (x ∷ ds) d = ap (λ l. all_unnamed x.edits ++ l) (unnamed_more ds d) ∙ sym (append_assoc (all_unnamed x.edits) (unnamed_along ds) (all_unnamed d.edits))

written_more : (n : ℕ) (ds : List Effect) (d : Effect) → blocks_written n (ds ++ d ∷ []) ≡ blocks_written n ds ++ flat_map (blocks_by n) d.edits
written_more n [] d = append-nil (flat_map (blocks_by n) d.edits)
written_more n (x ∷ ds) d =
    ap (λ l. flat_map (blocks_by n) x.edits ++ l) (written_more n ds d) ∙ sym (append_assoc (flat_map (blocks_by n) x.edits) (blocks_written n ds) (flat_map (blocks_by n) d.edits))

-- `Agrees` is `Along` with the claims
abbrev AlongAll : List Effect → Patches → Type 0
AlongAll ds p = Along (all_done ds) (AllFit ds) (λ n. times n (named_along ds)) (unnamed_along ds) (λ n b. Contains (blocks_written n ds) b) p

along_of : (ds : List Effect) (p : Patches) → Agrees ds p → AlongAll ds p
along_of ds p a = record {
  root = a.root;
  count = a.count;
  bounds = a.bounds;
  inodes = a.inodes;
  rights = a.rights;
  descriptions = a.descriptions;
  processes = a.processes;
  named = a.named;
  unnamed = a.unnamed;
  unnamed_inodes = a.unnamed_inodes;
  added = a.added;
  still = a.still;
  kinds = a.kinds;
  written = a.written;
  moved = a.moved;
  reach = a.reach;
  well = λ k fit well. sweep_is_tidy_lem.well ds k well fit;
  pipes = a.pipes;
  alive = a.alive;
}

of_along : (ds : List Effect) (p : Patches) → ((c : Claim) → claimed c ds ≡ claim_in p c) → AlongAll ds p → Agrees ds p
of_along ds p claims a = record {
  root = a.root;
  count = a.count;
  bounds = a.bounds;
  inodes = a.inodes;
  rights = a.rights;
  descriptions = a.descriptions;
  processes = a.processes;
  named = a.named;
  unnamed = a.unnamed;
  unnamed_inodes = a.unnamed_inodes;
  claims = claims;
  added = a.added;
  still = a.still;
  kinds = a.kinds;
  written = a.written;
  moved = a.moved;
  reach = a.reach;
  pipes = a.pipes;
  alive = a.alive;
}

both_all : (P Q : Edit → Type 0) (es : List Edit) → AllByRecursion P es → AllByRecursion Q es → AllByRecursion (λ e. P e × Q e) es
both_all P Q [] h g = tt
both_all P Q (e ∷ es) h g = ((h.0, g.0), both_all P Q es h.1 g.1)

-- one call more
along_more : (ds : List Effect) (p q : Patches) (chosen : List ℕ) (edits : List Edit) → AllByRecursion (λ e. IsOne e × AreApart chosen e) edits → TakesAll chosen edits p q → AlongAll ds p → AlongAll (ds ++ effect chosen edits ∷ []) q
along_more ds p q chosen edits all t a =
    along_same (λ k. all_applied chosen edits (all_done ds k)) (all_done (ds ++ effect chosen edits ∷ []))
    (λ k. AllFit ds k × FitsAll chosen (all_done ds k) edits) (AllFit (ds ++ effect chosen edits ∷ []))
    (λ n. times n (named_along ds) + times n (all_named chosen edits)) (λ n. times n (named_along (ds ++ effect chosen edits ∷ [])))
    (unnamed_along ds ++ all_unnamed edits) (unnamed_along (ds ++ effect chosen edits ∷ []))
    (λ n b. Contains (blocks_written n ds) b ⊎ Contains (flat_map (blocks_by n) edits) b) (λ n b. Contains (blocks_written n (ds ++ effect chosen edits ∷ [])) b) q
    (done_more ds (effect chosen edits)) (fit_split ds (effect chosen edits)) (λ n. named_more n ds (effect chosen edits)) (unnamed_more ds (effect chosen edits))
    (λ n b. (there n b, back n b))
    (along_all chosen edits all (all_done ds) (AllFit ds) (λ n. times n (named_along ds)) (unnamed_along ds) (λ n b. Contains (blocks_written n ds) b) p q t a)
  where
    part : (n b : ℕ) → Contains (blocks_written n ds) b ⊎ Contains (flat_map (blocks_by n) edits) b → Contains (blocks_written n ds ++ flat_map (blocks_by n) edits) b
    part n b (inl old) = Contains-append_left (blocks_written n ds) (flat_map (blocks_by n) edits) b old
    part n b (inr new) = Contains-append_right (blocks_written n ds) (flat_map (blocks_by n) edits) b new

    there : (n b : ℕ) → Contains (blocks_written n ds) b ⊎ Contains (flat_map (blocks_by n) edits) b → Contains (blocks_written n (ds ++ effect chosen edits ∷ [])) b
    there n b has = subst (λ l. Contains l b) (sym (written_more n ds (effect chosen edits))) (part n b has)

    back : (n b : ℕ) → Contains (blocks_written n (ds ++ effect chosen edits ∷ [])) b → Contains (blocks_written n ds) b ⊎ Contains (flat_map (blocks_by n) edits) b
    back n b has = Contains-append_cases (blocks_written n ds) (flat_map (blocks_by n) edits) b (subst (λ l. Contains l b) (written_more n ds (effect chosen edits)) has)

pub agrees_more : (ds : List Effect) (p q : Patches) (chosen : List ℕ) (edits : List Edit) → CanEdit edits → length chosen ≡ sum_by news edits → AllDifferent chosen
    → ((c : Claim) → is_in (number_of c) chosen ≡ true → claimed c ds ≡ 0) → AllByRecursion (AreApart chosen) edits → TakesAll chosen edits p q → Agrees ds p → Agrees (ds ++ effect chosen edits ∷ []) q
agrees_more ds p q chosen edits can long different unused apart t a =
    of_along (ds ++ effect chosen edits ∷ []) q
    (λ c. sum_by_push (claimed_by c) ds (effect chosen edits) ∙ ap (λ m. m + claimed_by c (effect chosen edits)) (a.claims c) ∙ sym (claims_more chosen edits can long different p q free t c))
    (along_more ds p q chosen edits (both_all IsOne (AreApart chosen) edits (all_one edits can) apart) t (along_of ds p a))
  where
    free : AreFree p chosen
    free n h = (sym (a.claims (New_directory n)) ∙ unused (New_directory n) h, sym (a.claims (Number n)) ∙ unused (Number n) h)

-- where all shows as before
no_slots : (gs : List (ℕ × Option ℕ)) → reslotted_by gs None ≡ None → gs ≡ []
no_slots [] e = refl
no_slots (g ∷ gs) e = absurd cc

pub agrees_same : (ds : List Effect) (p q : Patches) → SamePatches p q → Agrees ds p → Agrees ds q
agrees_same ds p q s a = record {
  root = a.root;
  count = a.count;
  bounds = a.bounds;
  inodes = λ k n fit. a.inodes k n fit ∙ ap (λ c. patched c (get k.inodes n)) (sym (contents n));
  rights = λ k n. a.rights k n ∙ ap (λ o. rights_over o (get k.rights n)) (sym (s.rights n));
  descriptions = λ k d. a.descriptions k d ∙ ap (λ o. reopened o (get k.descriptions d)) (sym (s.openings d));
  processes = λ k pid. a.processes k pid ∙ sym (s.processes pid (get k.processes pid));
  named = λ n. a.named n ∙ sym (ap (λ (net : Net). net.named) (s.inodes.nets n));
  unnamed = λ n. ap (times n) s.unnamed_inodes ∙ a.unnamed n ∙ sym (ap (λ (net : Net). net.unnamed) (s.inodes.nets n));
  unnamed_inodes = a.unnamed_inodes ∙ sym s.unnamed_inodes;
  claims = λ c. a.claims c ∙ sym (same_claim c);
  added = λ n. subst (λ c. added_by c ≤ (net_at q.inodes n).promised) (sym (contents n)) (subst (λ m. added_by (net_at p.inodes n).contents ≤ m) (sym (promised n)) (a.added n));
  still = λ n none. promised n ∙ a.still n (sym (ap form_of (contents n)) ∙ none);
  kinds = λ k n fit. subst (λ m. IsOver (kind_of k n) m (form_of (net_at q.inodes n).contents)) (sym (made n)) (subst (λ c. IsOver (kind_of k n) (net_at p.inodes n).made (form_of c)) (sym (contents n)) (a.kinds k n fit));
  written = λ k n b fit. subst (λ c. Contains (numbers_in c) b ↔ Contains (blocks_written n ds) b) (sym (contents n)) (a.written k n b fit);
  moved = λ k d fit. subst (λ o. IsOverDescription o (is_some (get k.descriptions d))) (sym (s.openings d)) (a.moved k d fit);
  reach = λ k n fit. subst (λ c. AllReach c (get k.inodes n)) (sym (contents n)) (a.reach k n fit);
  pipes = λ k n ends is well fit. a.pipes k n ends (sym (ap new_ends (contents n)) ∙ is) well fit;
  alive = λ k pid fit some. a.alive k pid fit (λ none. some (no_slots (slots_in (kept_at q.slots pid)) (s.processes pid None ∙ ap (λ gs. reslotted_by gs None) none)));
}
  where
    contents : (n : ℕ) → (net_at q.inodes n).contents ≡ (net_at p.inodes n).contents
    contents n = ap (λ (net : Net). net.contents) (s.inodes.nets n)

    made : (n : ℕ) → (net_at q.inodes n).made ≡ (net_at p.inodes n).made
    made n = ap (λ (net : Net). net.made) (s.inodes.nets n)

    promised : (n : ℕ) → (net_at q.inodes n).promised ≡ (net_at p.inodes n).promised
    promised n = ap (λ (net : Net). net.promised) (s.inodes.nets n)

    same_claim : (c : Claim) → claim_in q c ≡ claim_in p c
    same_claim (Room d) = promised d
    same_claim (New_directory n) = ap (λ m. as_count (is_directory_made m)) (made n)
    same_claim (Number n) = ap₂ other_claims (made n) (ap is_new (s.openings n))

-- nothing of what came before claims an unused number
pub unused_claims : (s : Committed) (ds : List Effect) (edits : List Edit) (chosen : List ℕ) → Covers s ds → AreUnused s edits chosen → (c : Claim) → is_in (number_of c) chosen ≡ true → claimed c ds ≡ 0
unused_claims s ds edits chosen covers new c h =
    let low : claimed c ds ≤ reserved s c = covers c in let none : reserved s c ≡ 0 = new.unused c h in omega arith

-- what was kept for a call can be given back, and then all is as before
pub can_give : (s t : Committed) (edits : List Edit) (chosen given parents : List ℕ) → KeepsMore s t (λ c. claimed_by c (effect chosen edits)) → given ≡ chosen → parents ≡ flat_map parents_in edits
    → (c : Claim) → claimed_in c (with_kinds given (flat_map kinds_in edits)) parents ≤ reserved t c
can_give s t edits chosen given parents kept same is c =
    let more : reserved t c ≡ reserved s c + claimed_by c (effect chosen edits) = kept c in
    let alike : claimed_in c (with_kinds given (flat_map kinds_in edits)) parents ≡ claimed_by c (effect chosen edits) = ap₂ (λ ns ps. claimed_in c (with_kinds ns (flat_map kinds_in edits)) ps) same is in omega arith

pub given_back : (s t u : Committed) (edits : List Edit) (chosen given parents : List ℕ) → KeepsMore s t (λ c. claimed_by c (effect chosen edits)) → given ≡ chosen → parents ≡ flat_map parents_in edits
    → ((bs : List Bool) → ((c : Claim) → claimed_in c (with_kinds given bs) parents ≤ reserved t c) → KeepsMore u t (λ c. claimed_in c (with_kinds given bs) parents)) → KeepsSame s u
given_back s t u edits chosen given parents kept same is back c =
    let more : reserved t c ≡ reserved s c + claimed_by c (effect chosen edits) = kept c in
    let alike : claimed_in c (with_kinds given (flat_map kinds_in edits)) parents ≡ claimed_by c (effect chosen edits) = ap₂ (λ ns ps. claimed_in c (with_kinds ns (flat_map kinds_in edits)) ps) same is in
    let less : reserved t c ≡ reserved u c + claimed_in c (with_kinds given (flat_map kinds_in edits)) parents = back (flat_map kinds_in edits) (can_give s t edits chosen given parents kept same is) c in omega arith
