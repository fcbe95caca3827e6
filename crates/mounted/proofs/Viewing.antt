-- Who steps for a request, by the view of its node.
use Rattle.std.proofs.Common.{◌≡◌, ◌≢◌, ◌==◌, ℕ, Bool, true, false, List, Option, Some, None, inr, refl, sym, ap, subst, ◌∙◌, ne_eqb}
use Rattle.std.specs.Prelude.{Result, Ok, Err, if◌then◌else◌}
use Rattle.model.specs.FiniteMap as map
use Rattle.ids.specs.declared.entry.Entry.{Entry}
use Rattle.fuse.specs.declared.errno.Errno.TheVariants.{ESTALE}
use Rattle.fuse.specs.declared.reply.Reply.{Reply}
use Rattle.fuse.specs.declared.request.Operation.{Operation}
use Rattle.machine.specs.Shown.{Shown}
use Rattle.nodes.specs.Tables.{root_of}
use Rattle.course.specs.Hands.{IsSince, Stand}
use Rattle.mount_tables.specs.Numbers.{view_of}
use Rattle.mount_tables.specs.declared.views.State.{State}
use Rattle.mount_tables.specs.declared.views.State.TheVariants.{Live, Aborted, Committed, GivenUp}
use Rattle.mount_tables.specs.declared.views.View.{View}
use Rattle.mount_requests.specs.Failures.{and_then, found_or}
use Rattle.mount_requests.specs.Found.{stepper_at, stepper_by, stepper_in, stepper_of}
use Rattle.mount_requests.specs.Seen.{Seen}
use Rattle.mount_requests.specs.declared.failure.Failure.{Failure}
use Rattle.mount_requests.specs.declared.requests.Caller.{Caller}
use Rattle.mount_requests.specs.declared.tables.Stepper.{Stepper}
use Rattle.mounted.specs.Served.{ServesBy, ServesIn, ServesPlain, ServesTree, ServesView, ToldBy, told}
use Rattle.mounted.specs.Sound.{StaysSound}
use Rattle.mounted.specs.Steppers.{IsStepper, StaysInView}
use Rattle.mount_requests.proofs.Keeping.{answered_keeps}
use Rattle.mounted.proofs.Staying.{keeps_sound, sound_into, sound_noted, sound_then, stand_same}

same_ok : {A : Type 0} (r : Result A Failure) {x y : A} → r ≡ Ok x → r ≡ Ok y → x ≡ y
same_ok r a b = cc

no_error : {A : Type 0} (r : Result A Failure) {x : A} {e : Failure} → r ≡ Ok x → r ≡ Err e → ⊥
no_error r a b = cc

-- a process that steps in this view
pub record Steps (s : Seen) (view : ℕ) (st : Stepper) : Type 0 where
  pub here : st.view ≡ view
  pub steps : IsStepper s view st.pid

live : (s : Seen) (view : ℕ) (v : View) (state : State) (st : Stepper) → map.get s.views view ≡ Some v → v.state ≡ state → Ok st ≡ stepper_by view v.pid state → Steps s view st
live s view v Live st is state h = record {
  here = ap (λ (z : Stepper). z.view) (same_ok _ refl h);
  steps = record { found = v; is = is; live = state; pid = sym (ap (λ (z : Stepper). z.pid) (same_ok _ refl h)) };
}
live s view v (Aborted why) st is state h = absurd (no_error _ refl h)
live s view v Committed st is state h = absurd (no_error _ refl h)
live s view v GivenUp st is state h = absurd (no_error _ refl h)

of_view : (s : Seen) (view : ℕ) (o : Option View) (st : Stepper) → map.get s.views view ≡ o → Ok st ≡ stepper_of view o → Steps s view st
of_view s view (Some v) st is h = live s view v v.state st is refl h
of_view s view None st is h = absurd (no_error _ refl h)

-- the process of another view than that of the plain tree
other : (s : Seen) (view : ℕ) (st : Stepper) (b : Bool) → (view == 0) ≡ b → b ≡ false → Ok st ≡ stepper_in s view → Steps s view st
other s view st true is apart h = absurd cc
other s view st false is apart h = of_view s view (map.get s.views view) st refl (h ∙ ap (λ (b : Bool). if b then Ok (record { view = 0; pid = 1 }) else stepper_of view (map.get s.views view)) is)

-- what is told of a node below this view
pub steps_at : (s : Seen) (node view : ℕ) (st : Stepper) → view_of (root_of s.nodes node) ≡ Some view → view ≢ 0 → Ok st ≡ stepper_at s node → Steps s view st
steps_at s node view st is apart h =
    other s view st (view == 0) refl (ne_eqb view 0 apart)
    (h ∙ ap (λ (o : Option ℕ). and_then (found_or ESTALE o) (stepper_in s)) is)

-- the process of the view's transaction steps
pub in_view : (s : Seen) (node : ℕ) (st : Stepper) {old new : List Entry} → Ok st ≡ stepper_at s node → IsSince st.pid old new → StaysInView s node old new
in_view s node st h since tree view is apart = inr (st.pid, (steps_at s node view st is apart h).steps, since)

-- ---- how a request is served then

module _ (s later : Seen) (who : Caller) (operation : Operation) {old new : Shown} where
  pub refuses : {e : Failure} {answer : Reply} → Err e ≡ stepper_at s who.node → new ≡ old → later ≡ s → answer ≡ told (Err e) → ToldBy (ServesTree s later who operation old new) answer
  refuses {e} h same known tells = record {
    outcome = Err e;
    served = subst (λ (z : Result Stepper Failure). ServesBy z s later who operation old new (Err e)) h (refl, same, known);
    is = tells;
  }

  pub serves_plain : (st : Stepper) (r : Result Reply Failure) {answer : Reply} → Ok st ≡ stepper_at s who.node → (st.view == 0) ≡ true → ServesPlain s later who operation old new r → answer ≡ told r → ToldBy (ServesTree s later who operation old new) answer
  serves_plain st r h is served tells = record {
    outcome = r;
    served = subst (λ (z : Result Stepper Failure). ServesBy z s later who operation old new r) h (subst (λ (b : Bool). ServesIn b s later st who operation old new r) (sym is) served);
    is = tells;
  }

  pub serves_view : (st : Stepper) {answer : Reply} → Ok st ≡ stepper_at s who.node → (st.view == 0) ≡ false → ToldBy (ServesView s later st.view st.pid who operation old new) answer → ToldBy (ServesTree s later who operation old new) answer
  serves_view st h is t = record {
    outcome = t.outcome;
    served = subst (λ (z : Result Stepper Failure). ServesBy z s later who operation old new t.outcome) h (subst (λ (b : Bool). ServesIn b s later st who operation old new t.outcome) (sym is) t.served);
    is = t.is;
  }

  -- processes and views stay sound
  pub view_sound : (view pid : ℕ) {answer : Reply} → ToldBy (ServesView s later view pid who operation old new) answer → Stand old new → StaysSound s old later new
  view_sound view pid t stand =
      sound_then (keeps_sound (answered_keeps s t.served.served pid who operation old new t.outcome t.served.answers) stand)
      (sound_into t.served.noted_is (sound_noted t.served.served view t.outcome (stand_same new)))
