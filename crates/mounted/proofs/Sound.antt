-- Who serves whom stays sound.
use Rattle.std.proofs.Common.{◌≡◌, ◌≢◌, ℕ, ◌+◌, ◌≤◌, ◌<◌, arith, List, inl, inr, ◌⊎◌, refl, sym, ap, ◌∙◌}
use Rattle.std.specs.Prelude.{Option, Some, None}
use Rattle.std.proofs.lemmas.Bool.{cases_eq}
use Rattle.std.specs.Ordering.{nat_cmp}
use Rattle.model.specs.FiniteMap as map
use Rattle.model.proofs.Laws.{get_other, get_same, removed_other, removed_same}
use Rattle.machine.specs.Shown.{Shown}
use Rattle.course.specs.Hands.{IsChild, Stand, made_in, priority_in}
use Rattle.mount_tables.specs.declared.views.View.{View}
use Rattle.mount_tables.specs.declared.processes.Role.{Role}
use Rattle.mount_tables.specs.declared.processes.Role.TheVariants.{Holder, Idle, Of}
use Rattle.mount_requests.specs.Keeping.{AreKept, purpose}
use Rattle.mount_requests.specs.Seen.{Seen}
use Rattle.mount_requests.proofs.Keeping.{kept_same}
use Rattle.mounted.specs.Sound.{IsSound}

abbrev pub Roles : Type 0
Roles = map.FinMap nat_cmp Role

of_kept : (o p : Option Role) (view : ℕ) → purpose p ≡ purpose o → o ≡ Some (Of view) → p ≡ Some (Of view)
of_kept o (Some (Holder used)) view same is = absurd (cc (same, is))
of_kept o (Some (Idle level)) view same is = absurd (cc (same, is))
of_kept o (Some (Of other)) view same is = same ∙ ap purpose is
of_kept o None view same is = absurd (cc (same, is))

idle_kept : (o p : Option Role) (level : ℕ) → purpose p ≡ purpose o → p ≡ Some (Idle level) → o ≡ Some (Idle level)
idle_kept o p level same is = of_idle o level (sym same ∙ ap purpose is)
  where
    of_idle : (o : Option Role) (level : ℕ) → purpose o ≡ Some (Idle level) → o ≡ Some (Idle level)
    of_idle (Some (Holder used)) level is = absurd cc
    of_idle (Some (Idle other)) level is = is
    of_idle (Some (Of view)) level is = absurd cc
    of_idle None level is = absurd cc

-- a process that has a role had one
had_role : (o p : Option Role) (role : Role) → purpose p ≡ purpose o → p ≡ Some role → (was : Role) × (o ≡ Some was)
had_role (Some was) p role same is = (was, refl)
had_role None p role same is = absurd (none_of p role (same) is)
  where
    none_of : (p : Option Role) (role : Role) → purpose p ≡ None → p ≡ Some role → ⊥
    none_of (Some (Holder used)) role same is = cc
    none_of (Some (Idle level)) role same is = cc
    none_of (Some (Of view)) role same is = cc
    none_of None role same is = cc

pub kept_is : {r r' : Roles} → r' ≡ r → AreKept r r'
kept_is {r} e q = ap (λ (m : Roles). purpose (map.get m q)) e

-- each view was there, with the process and the priority that it has
abbrev pub Views : Type 0
Views = map.FinMap nat_cmp View

pub record WasThere (old : Views) (number : ℕ) (view : View) : Type 0 where
  pub was : View
  pub is : map.get old number ≡ Some was
  pub pid : view.pid ≡ was.pid
  pub level : view.level ≡ was.level

abbrev pub AreThere : Views → Views → Type 0
AreThere old new = (number : ℕ) (view : View) → map.get new number ≡ Some view → WasThere old number view

pub there_same : {old new : Views} → new ≡ old → AreThere old new
there_same {old} {new} e number view h = record { was = view; is = sym (ap (λ (m : Views). map.get m number) e) ∙ h; pid = refl; level = refl }

-- where views keep their processes, and each process is for what it was for
pub sound_kept : (s later : Seen) (v w : Shown) → IsSound s v → AreThere s.views later.views → later.next_view ≡ s.next_view → AreKept s.roles later.roles → Stand v w → IsSound later w
sound_kept s later v w was there next kept stand = record {
  views = λ number view h. let t = there number view h in ap (map.get later.roles) t.pid ∙ of_kept (map.get s.roles t.was.pid) (map.get later.roles t.was.pid) number (kept t.was.pid) (was.views number t.was t.is);
  levels = λ number view h. let t = there number view h in ap (priority_in w) t.pid ∙ (stand.priority t.was.pid (was.made t.was.pid (Of number) (was.views number t.was t.is)).1 ∙ (was.levels number t.was t.is ∙ sym t.level));
  made = λ pid role h. let had = had_role (map.get s.roles pid) (map.get later.roles pid) role (kept pid) h in let m = was.made pid had.0 had.1 in (m.0, (let x = m.1 in let y = stand.made in omega arith));
  waiting = λ pid level h. let had = idle_kept (map.get s.roles pid) (map.get later.roles pid) level (kept pid) h in stand.priority pid (was.made pid (Idle level) had).1 ∙ was.waiting pid level had;
  numbers = λ number view h. (let low = was.numbers number (there number view h).was (there number view h).is in let n = next in omega arith);
  first = (let x = was.first in let y = stand.made in omega arith);
  levels_first = λ level low. stand.priority (level + 1) (let x = was.first in omega arith) ∙ was.levels_first level low;
}

-- the kernel made steps
pub sound_stands : (s : Seen) (v w : Shown) → IsSound s v → Stand v w → IsSound s w
sound_stands s v w was stand = sound_kept s s v w was (there_same refl) refl (kept_same s.roles) stand

-- what is left where one number stands for nothing any more
pub left_in : {X : Type 0} (m : map.FinMap nat_cmp X) (number n : ℕ) (x : X) → map.get (map.remove m number) n ≡ Some x → (map.get m n ≡ Some x) × (n ≢ number)
left_in {X} m number n x h = by (cases_eq n number)
  where
    by : (n ≡ number) ⊎ (n ≢ number) → (map.get m n ≡ Some x) × (n ≢ number)
    by (inl e) = let none : map.get (map.remove m number) n ≡ None = ap (map.get (map.remove m number)) e ∙ removed_same m number in absurd (cc (none, h))
    by (inr ne) = (sym (removed_other m number n ne) ∙ h, ne)

-- ---- a process more

no_role : (s : Seen) (v : Shown) (pid : ℕ) → IsSound s v → made_in v < pid → map.get s.roles pid ≡ None
no_role s v pid was high = by (map.get s.roles pid) refl
  where
    by : (o : Option Role) → map.get s.roles pid ≡ o → map.get s.roles pid ≡ None
    by None e = e
    by (Some role) e = absurd (let m = (was.made pid role e).1 in omega arith)

-- a process that was made has a role that is no view's
pub sound_made : (s : Seen) (v w : Shown) (maker pid : ℕ) (role : Role) → IsSound s v → IsChild v maker pid w → Stand v w
    → ((view : ℕ) → role ≢ Of view) → ((level : ℕ) → role ≡ Idle level → priority_in v maker ≡ level) → IsSound (record s { roles = map.insert s.roles pid role }) w
sound_made s v w maker pid role was child stand no_view for_level = record {
  views = λ number view h. let has = was.views number view h in get_other s.roles pid view.pid role (apart view.pid (Of number) has) ∙ has;
  levels = λ number view h. stand.priority view.pid (was.made view.pid (Of number) (was.views number view h)).1 ∙ was.levels number view h;
  made = λ q r h. made_by q r h (cases_eq q pid);
  waiting = λ q level h. waiting_by q level h (cases_eq q pid);
  numbers = was.numbers;
  first = (let x = was.first in let y = stand.made in omega arith);
  levels_first = λ level low. stand.priority (level + 1) (let x = was.first in omega arith) ∙ was.levels_first level low;
}
  where
    apart : (q : ℕ) (r : Role) → map.get s.roles q ≡ Some r → q ≢ pid
    apart q r has e = let m = (was.made q r has).1 in let n = child.number in omega arith

    made_by : (q : ℕ) (r : Role) → map.get (map.insert s.roles pid role) q ≡ Some r → (q ≡ pid) ⊎ (q ≢ pid) → (8 < q) × (q ≤ made_in w)
    made_by q r h (inl e) = (let x = was.first in let n = child.number in omega arith, (let n = child.made in omega arith))
    made_by q r h (inr ne) = let m = was.made q r (sym (get_other s.roles pid q role ne) ∙ h) in (m.0, (let x = m.1 in let y = stand.made in omega arith))

    waiting_by : (q level : ℕ) → map.get (map.insert s.roles pid role) q ≡ Some (Idle level) → (q ≡ pid) ⊎ (q ≢ pid) → priority_in w q ≡ level
    waiting_by q level h (inl e) =
        let is : Some role ≡ Some (Idle level) = sym (get_same s.roles pid role) ∙ (ap (map.get (map.insert s.roles pid role)) (sym e) ∙ h) in
        ap (priority_in w) e ∙ (child.priority ∙ for_level level cc)
    waiting_by q level h (inr ne) = let has = sym (get_other s.roles pid q role ne) ∙ h in stand.priority q (was.made q (Idle level) has).1 ∙ was.waiting q level has

-- ---- a view more

-- a process that waits serves a new view
pub sound_begun : (s : Seen) (v : Shown) (pid level : ℕ) (name : List ℕ) (view : View) → IsSound s v → map.get s.roles pid ≡ Some (Idle level)
    → view.pid ≡ pid → view.level ≡ level → (later : Seen) → later.views ≡ map.insert s.views s.next_view view → later.next_view ≡ s.next_view + 1
    → later.roles ≡ map.insert s.roles pid (Of s.next_view) → IsSound later v
sound_begun s v pid level name view was waits is_pid is_level later views next roles = record {
  views = λ number w h. views_by number w (sym (ap (λ (m : map.FinMap nat_cmp View). map.get m number) views) ∙ h) (cases_eq number s.next_view);
  levels = λ number w h. levels_by number w (sym (ap (λ (m : map.FinMap nat_cmp View). map.get m number) views) ∙ h) (cases_eq number s.next_view);
  made = λ q r h. made_by q r (sym (in_roles q) ∙ h) (cases_eq q pid);
  waiting = λ q l h. waiting_by q l (sym (in_roles q) ∙ h) (cases_eq q pid);
  numbers = λ number w h. numbers_by number w (sym (ap (λ (m : map.FinMap nat_cmp View). map.get m number) views) ∙ h) (cases_eq number s.next_view);
  first = was.first;
  levels_first = was.levels_first;
}
  where
    in_roles : (q : ℕ) → map.get later.roles q ≡ map.get (map.insert s.roles pid (Of s.next_view)) q
    in_roles q = ap (λ (m : Roles). map.get m q) roles

    same_view : (number : ℕ) (w : View) → map.get (map.insert s.views s.next_view view) number ≡ Some w → number ≡ s.next_view → w ≡ view
    same_view number w h e = let is : Some view ≡ Some w = sym (get_same s.views s.next_view view) ∙ (ap (map.get (map.insert s.views s.next_view view)) (sym e) ∙ h) in cc

    other_view : (number : ℕ) (w : View) → map.get (map.insert s.views s.next_view view) number ≡ Some w → number ≢ s.next_view → map.get s.views number ≡ Some w
    other_view number w h ne = sym (get_other s.views s.next_view number view ne) ∙ h

    -- a process of another view does not wait
    apart : (number : ℕ) (w : View) → map.get s.views number ≡ Some w → w.pid ≢ pid
    apart number w h e = let has : map.get s.roles pid ≡ Some (Of number) = ap (map.get s.roles) (sym e) ∙ was.views number w h in absurd (cc (has, waits))

    views_by : (number : ℕ) (w : View) → map.get (map.insert s.views s.next_view view) number ≡ Some w → (number ≡ s.next_view) ⊎ (number ≢ s.next_view) → map.get later.roles w.pid ≡ Some (Of number)
    views_by number w h (inl e) = in_roles w.pid ∙ (ap (map.get (map.insert s.roles pid (Of s.next_view))) (ap (λ (x : View). x.pid) (same_view number w h e) ∙ is_pid) ∙ (get_same s.roles pid (Of s.next_view) ∙ ap (λ n. Some (Of n)) (sym e)))
    views_by number w h (inr ne) = let old = other_view number w h ne in in_roles w.pid ∙ (get_other s.roles pid w.pid (Of s.next_view) (apart number w old) ∙ was.views number w old)

    levels_by : (number : ℕ) (w : View) → map.get (map.insert s.views s.next_view view) number ≡ Some w → (number ≡ s.next_view) ⊎ (number ≢ s.next_view) → priority_in v w.pid ≡ w.level
    levels_by number w h (inl e) = let same = same_view number w h e in ap (priority_in v) (ap (λ (x : View). x.pid) same ∙ is_pid) ∙ (was.waiting pid level waits ∙ (sym is_level ∙ ap (λ (x : View). x.level) (sym same)))
    levels_by number w h (inr ne) = was.levels number w (other_view number w h ne)

    numbers_by : (number : ℕ) (w : View) → map.get (map.insert s.views s.next_view view) number ≡ Some w → (number ≡ s.next_view) ⊎ (number ≢ s.next_view) → number < later.next_view
    numbers_by number w h (inl e) = let n = next in omega arith
    numbers_by number w h (inr ne) = let low = was.numbers number w (other_view number w h ne) in let n = next in omega arith

    made_by : (q : ℕ) (r : Role) → map.get (map.insert s.roles pid (Of s.next_view)) q ≡ Some r → (q ≡ pid) ⊎ (q ≢ pid) → (8 < q) × (q ≤ made_in v)
    made_by q r h (inl e) = let m = was.made pid (Idle level) waits in rw e m
    made_by q r h (inr ne) = was.made q r (sym (get_other s.roles pid q (Of s.next_view) ne) ∙ h)

    waiting_by : (q l : ℕ) → map.get (map.insert s.roles pid (Of s.next_view)) q ≡ Some (Idle l) → (q ≡ pid) ⊎ (q ≢ pid) → priority_in v q ≡ l
    waiting_by q l h (inl e) = let is : Some (Of s.next_view) ≡ Some (Idle l) = sym (get_same s.roles pid (Of s.next_view)) ∙ (ap (map.get (map.insert s.roles pid (Of s.next_view))) (sym e) ∙ h) in absurd cc
    waiting_by q l h (inr ne) = was.waiting q l (sym (get_other s.roles pid q (Of s.next_view) ne) ∙ h)

-- ---- a view less

-- A view goes, and its process waits, or serves nobody.
pub sound_removed : (s : Seen) (v : Shown) (number : ℕ) (view : View) → IsSound s v → map.get s.views number ≡ Some view
    → (later : Seen) → later.views ≡ map.remove s.views number → later.next_view ≡ s.next_view
    → (later.roles ≡ map.insert s.roles view.pid (Idle view.level)) ⊎ (later.roles ≡ s.roles) → IsSound later v
sound_removed s v number view was there later views next (inr same) = record {
  views = λ n w h. ap (λ (m : Roles). map.get m w.pid) same ∙ was.views n w (still n w h).0;
  levels = λ n w h. was.levels n w (still n w h).0;
  made = λ q r h. was.made q r (sym (ap (λ (m : Roles). map.get m q) same) ∙ h);
  waiting = λ q l h. was.waiting q l (sym (ap (λ (m : Roles). map.get m q) same) ∙ h);
  numbers = λ n w h. (let low = was.numbers n w (still n w h).0 in let e = next in omega arith);
  first = was.first;
  levels_first = was.levels_first;
}
  where
    still : (n : ℕ) (w : View) → map.get later.views n ≡ Some w → (map.get s.views n ≡ Some w) × (n ≢ number)
    still n w h = left_in s.views number n w (sym (ap (λ (m : Views). map.get m n) views) ∙ h)
sound_removed s v number view was there later views next (inl idle) = record {
  views = λ n w h. let k = still n w h in in_roles w.pid ∙ (get_other s.roles view.pid w.pid (Idle view.level) (apart n w k.0 k.1) ∙ was.views n w k.0);
  levels = λ n w h. was.levels n w (still n w h).0;
  made = λ q r h. made_by q r (sym (in_roles q) ∙ h) (cases_eq q view.pid);
  waiting = λ q l h. waiting_by q l (sym (in_roles q) ∙ h) (cases_eq q view.pid);
  numbers = λ n w h. (let low = was.numbers n w (still n w h).0 in let e = next in omega arith);
  first = was.first;
  levels_first = was.levels_first;
}
  where
    in_roles : (q : ℕ) → map.get later.roles q ≡ map.get (map.insert s.roles view.pid (Idle view.level)) q
    in_roles q = ap (λ (m : Roles). map.get m q) idle

    still : (n : ℕ) (w : View) → map.get later.views n ≡ Some w → (map.get s.views n ≡ Some w) × (n ≢ number)
    still n w h = left_in s.views number n w (sym (ap (λ (m : Views). map.get m n) views) ∙ h)

    -- the process of another view
    apart : (n : ℕ) (w : View) → map.get s.views n ≡ Some w → n ≢ number → w.pid ≢ view.pid
    apart n w h ne e =
        let one : map.get s.roles view.pid ≡ Some (Of n) = ap (map.get s.roles) (sym e) ∙ was.views n w h in
        let other = was.views number view there in
        ne cc

    made_by : (q : ℕ) (r : Role) → map.get (map.insert s.roles view.pid (Idle view.level)) q ≡ Some r → (q ≡ view.pid) ⊎ (q ≢ view.pid) → (8 < q) × (q ≤ made_in v)
    made_by q r h (inl e) = let m = was.made view.pid (Of number) (was.views number view there) in rw e m
    made_by q r h (inr ne) = was.made q r (sym (get_other s.roles view.pid q (Idle view.level) ne) ∙ h)

    waiting_by : (q l : ℕ) → map.get (map.insert s.roles view.pid (Idle view.level)) q ≡ Some (Idle l) → (q ≡ view.pid) ⊎ (q ≢ view.pid) → priority_in v q ≡ l
    waiting_by q l h (inl e) =
        let is : Some (Idle view.level) ≡ Some (Idle l) = sym (get_same s.roles view.pid (Idle view.level)) ∙ (ap (map.get (map.insert s.roles view.pid (Idle view.level))) (sym e) ∙ h) in
        ap (priority_in v) e ∙ (was.levels number view there ∙ cc)
    waiting_by q l h (inr ne) = was.waiting q l (sym (get_other s.roles view.pid q (Idle view.level) ne) ∙ h)

-- ---- a view that stands otherwise

-- a view keeps its process and its priority
pub there_as : (views : Views) (number : ℕ) (view now : View) → map.get views number ≡ Some view → now.pid ≡ view.pid → now.level ≡ view.level → AreThere views (map.insert views number now)
there_as views number view now is pid level n w h = by (cases_eq n number)
  where
    by : (n ≡ number) ⊎ (n ≢ number) → WasThere views n w
    by (inl e) =
        let same : Some now ≡ Some w = sym (get_same views number now) ∙ (ap (map.get (map.insert views number now)) (sym e) ∙ h) in
        record { was = view; is = ap (map.get views) e ∙ is; pid = ap (λ (o : Option View). pid_in o) (sym same) ∙ pid; level = ap (λ (o : Option View). level_in o) (sym same) ∙ level }
      where
        pid_in : Option View → ℕ
        pid_in (Some v) = v.pid
        pid_in None = 0

        level_in : Option View → ℕ
        level_in (Some v) = v.level
        level_in None = 0
    by (inr ne) = record { was = w; is = sym (get_other views number n now ne) ∙ h; pid = refl; level = refl }
