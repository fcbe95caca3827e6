-- From what is said of a kernel and its checker to what is said of the stream that has them.
use Rattle.std.proofs.Common.{arith, ◌≡◌, ℕ, List, [], Option, Some, None, Result, Ok, Err, refl, sym, ◌∙◌, ap, subst, take, IfErr, IfOk, OnErr, OnOk}
use Rattle.std.specs.Prelude.{is_some, option_map, sum}
use Rattle.history.specs.Log.{Log}
use Rattle.machine.specs.Shown.{Shown, Kept, setup_of}
use Rattle.replay.specs.SoFar.{Checked}
use Rattle.script.specs.Lines.{first_line_of, further_line_of}
use Rattle.stream.specs.Answers.{IsKernelOf}
use Rattle.stream.specs.Heard.{CannotForget, Comes, ComesFirst, ComesFurther, Follows, Forgets, HasCheckedFirst, HasGrown, IsFollowed, StopsAt, StopsFurther, fault_of_refusal}
use Rattle.stream.specs.States.{CannotSettle, HasBegun, IsFollowerOf, IsHeard, IsNotHeard, IsNotSettled, IsSameLine, IsSettled, StaysAlike}
use Rattle.stream.specs.declared.fault.StreamFault.{StreamFault}
use Rattle.stream.specs.declared.fault.StreamFault.TheVariants.{NoMemory}
use Rattle.stream.specs.declared.follower.Follower.{Follower}
use Rattle.stream.specs.declared.heard.Heard.{Heard}
use Rattle.stream.specs.declared.heard.Heard.TheVariants as heard
use Rattle.stream.specs.declared.doing.StepRefusal.{StepRefusal}
use Rattle.stream.specs.declared.doing.StepRefusal.TheVariants as refusal
use Rattle.stream.specs.declared.state.Setting.{Setting}
use Rattle.stream.specs.declared.state.Stream.{Stream}
use Rattle.stream.proofs.Forgotten.{grown_same, grown_settled}
use Rattle.ids.specs.Bounds.{bounds_of}

pub same_line : {K : Type 0} (stream : Stream K) → IsSameLine stream stream
same_line stream = record { line = refl; number = refl; good = refl }

-- the follower of a fresh history follows it
fresh_follows : (setting : Setting) (priorities : List ℕ) (follower : Option Follower) (log : Log)
    → log ≡ record { entries = []; priorities = priorities; limit = setting.limits.entries; forgotten = []; bounds = bounds_of setting.limits }
    → IsFollowerOf setting priorities follower → (is_some follower ≡ setting.check) × Follows follower log
fresh_follows setting priorities None log e is = (sym is, tt)
fresh_follows setting priorities (Some follower) log e is =
    let so_far : Log → ℕ → Checked = λ l n. record { root = 0; setup = setup_of l; entries = take n l.entries } in
    let none : sum log.forgotten ≡ 0 = ap (λ (l : Log). sum l.forgotten) e in
    let count = is.1 in
    let first : HasCheckedFirst follower log = record {
      checked = is.2 ∙ sym (ap (λ (n : ℕ). so_far log n) count ∙ ap (λ (l : Log). so_far l 0) e);
      forgotten = omega arith;
      made = omega arith;
    } in
    (sym is.0, first)

-- a line before there are priorities that makes no kernel
pub heard_first : {K : Type 0} (shown : K → Shown) (setting : Setting) (stream : Stream K) (what : Heard)
    → stream.kernel ≡ None → ComesFirst (first_line_of stream.number stream.line.items) setting.limits None what → IsHeard shown setting stream stream what
heard_first {K} shown setting stream what none h = record {
  comes = subst (λ (k : Option K). Comes stream.number stream.line.items setting.limits (option_map shown k) (option_map shown k) what) (sym none) h;
  followed = λ f. f;
  same = same_line stream;
}

pub heard_first_all : {K : Type 0} {E : Type 0} (shown : K → Shown) (setting : Setting) (stream : Stream K) (r : Result Heard E)
    → stream.kernel ≡ None → IfOk r (ComesFirst (first_line_of stream.number stream.line.items) setting.limits None) → IfOk r (IsHeard shown setting stream stream)
heard_first_all shown setting stream (Ok what) none h = heard_first shown setting stream what none h
heard_first_all shown setting stream (Err why) none h = tt

-- the line that makes the kernel
pub heard_begin : {K : Type 0} (shown : K → Shown) (setting : Setting) (priorities : List ℕ) (old new : Stream K)
    → old.kernel ≡ None → first_line_of old.number old.line.items ≡ Ok (Some priorities) → HasBegun shown setting priorities old new → IsHeard shown setting old new heard.Nothing
heard_begin {K} shown setting priorities old new none gives begun =
    let kernel = shown begun.kernel in
    let made : IsKernelOf priorities setting.limits kernel = record {
      kept = begun.kept;
      same_priorities = ap (λ (l : Log). l.priorities) begun.log;
      same_limit = ap (λ (l : Log). l.limit) begun.log;
      same_bounds = ap (λ (l : Log). l.bounds) begun.log;
    } in
    let comes : Comes old.number old.line.items setting.limits None (Some kernel) heard.Nothing = record {
      priorities = priorities;
      gives = gives;
      made = made;
      fresh = ap (λ (l : Log). l.entries) begun.log;
    } in
    let from : Comes old.number old.line.items setting.limits (option_map shown old.kernel) (Some kernel) heard.Nothing =
    subst (λ (k : Option K). Comes old.number old.line.items setting.limits (option_map shown k) (Some kernel) heard.Nothing) (sym none) comes in
    let follows : IsFollowed setting.check new.follower (Some kernel) = fresh_follows setting priorities new.follower kernel.log begun.log begun.follower in
    record {
      comes = subst (λ (k : Option K). Comes old.number old.line.items setting.limits (option_map shown old.kernel) (option_map shown k) heard.Nothing) (sym begun.made) from;
      followed = λ _. subst (λ (k : Option K). IsFollowed setting.check new.follower (option_map shown k)) (sym begun.made) follows;
      same = begun.same;
    }

-- a further line
pub heard_further : {K : Type 0} (shown : K → Shown) (setting : Setting) (old new : Stream K) (before after : K) (what : Heard)
    → old.kernel ≡ Some before → new.kernel ≡ Some after → ComesFurther (further_line_of old.number old.line.items) (shown before) (shown after) what
    → (Follows old.follower (shown before).log → Follows new.follower (shown after).log) → is_some new.follower ≡ is_some old.follower → IsSameLine old new
    → IsHeard shown setting old new what
heard_further {K} shown setting old new before after what was is comes follows same line =
    let from : Comes old.number old.line.items setting.limits (option_map shown old.kernel) (Some (shown after)) what =
    subst (λ (k : Option K). Comes old.number old.line.items setting.limits (option_map shown k) (Some (shown after)) what) (sym was) comes in
    record {
      comes = subst (λ (k : Option K). Comes old.number old.line.items setting.limits (option_map shown old.kernel) (option_map shown k) what) (sym is) from;
      followed = λ f.
          let here : IsFollowed setting.check old.follower (Some (shown before)) = subst (λ (k : Option K). IsFollowed setting.check old.follower (option_map shown k)) was f in
          let there : IsFollowed setting.check new.follower (Some (shown after)) = (same ∙ here.0, follows here.1) in
          subst (λ (k : Option K). IsFollowed setting.check new.follower (option_map shown k)) (sym is) there;
      same = line;
    }

-- a kernel that has made no entry, as the stream has it
pub alike_by : {K : Type 0} (shown : K → Shown) (old new : Stream K) (before after : K)
    → old.kernel ≡ Some before → new.kernel ≡ Some after → HasGrown (shown before) (shown after) [] → StaysAlike (option_map shown old.kernel) (option_map shown new.kernel)
alike_by {K} shown old new before after was is grown =
    let from : StaysAlike (option_map shown old.kernel) (Some (shown after)) = subst (λ (k : Option K). StaysAlike (option_map shown k) (Some (shown after))) (sym was) grown in
    subst (λ (k : Option K). StaysAlike (option_map shown old.kernel) (option_map shown k)) (sym is) from

-- a stream without a kernel, or one that is as it was
pub alike_none : {K : Type 0} (shown : K → Shown) (old new : Stream K) → old.kernel ≡ None → new.kernel ≡ None → StaysAlike (option_map shown old.kernel) (option_map shown new.kernel)
alike_none {K} shown old new was is =
    let from : StaysAlike (option_map shown old.kernel) None = subst (λ (k : Option K). StaysAlike (option_map shown k) None) (sym was) tt in
    subst (λ (k : Option K). StaysAlike (option_map shown old.kernel) (option_map shown k)) (sym is) from

pub not_heard_further : {K : Type 0} (shown : K → Shown) (setting : Setting) (old new : Stream K) (before after : K) (why : StreamFault)
    → old.kernel ≡ Some before → new.kernel ≡ Some after → HasGrown (shown before) (shown after) []
    → (Follows old.follower (shown before).log → StopsFurther (further_line_of old.number old.line.items) (shown after) why)
    → IsNotHeard shown setting old new why
not_heard_further {K} shown setting old new before after why was is grown stops = record {
  alike = alike_by shown old new before after was is grown;
  stops = λ f.
      let here : IsFollowed setting.check old.follower (Some (shown before)) = subst (λ (k : Option K). IsFollowed setting.check old.follower (option_map shown k)) was f in
      let there : StopsAt old.number old.line.items (Some (shown after)) why = stops here.1 in
      subst (λ (k : Option K). StopsAt old.number old.line.items (option_map shown k) why) (sym is) there;
}

pub not_heard_first : {K : Type 0} (shown : K → Shown) (setting : Setting) (old new : Stream K) → old.kernel ≡ None → new.kernel ≡ None → IsNotHeard shown setting old new NoMemory
not_heard_first {K} shown setting old new was is = record {
  alike = alike_none shown old new was is;
  stops = λ _.
      let there : StopsAt old.number old.line.items None NoMemory = tt in
      subst (λ (k : Option K). StopsAt old.number old.line.items (option_map shown k) NoMemory) (sym is) there;
}

pub not_heard_first_by : {K : Type 0} (shown : K → Shown) (setting : Setting) (old new : Stream K) (refused : StepRefusal) (why : StreamFault)
    → old.kernel ≡ None → new ≡ old → refused ≡ refusal.NoMemory → why ≡ fault_of_refusal refused → IsNotHeard shown setting old new why
not_heard_first_by {K} shown setting old new refused why was same none is =
    subst (λ (w : StreamFault). IsNotHeard shown setting old new w) (sym (is ∙ ap fault_of_refusal none))
    (not_heard_first shown setting old new was (ap (λ (s : Stream K). s.kernel) same ∙ was))

-- what was kept is forgotten
pub settled_by : {K : Type 0} (shown : K → Shown) (old new : Stream K) (before after : K)
    → old.kernel ≡ Some before → new.kernel ≡ Some after → HasGrown (shown before) (shown after) []
    → (Follows old.follower (shown before).log → Follows new.follower (shown after).log) → is_some new.follower ≡ is_some old.follower → IsSameLine old new
    → IsSettled shown old new
settled_by {K} shown old new before after was is grown follows same line = record {
  alike = alike_by shown old new before after was is grown;
  followed = λ check f.
      let here : IsFollowed check old.follower (Some (shown before)) = subst (λ (k : Option K). IsFollowed check old.follower (option_map shown k)) was f in
      let there : IsFollowed check new.follower (Some (shown after)) = (same ∙ here.0, follows here.1) in
      subst (λ (k : Option K). IsFollowed check new.follower (option_map shown k)) (sym is) there;
  same = line;
}

pub settled_none : {K : Type 0} (shown : K → Shown) (stream : Stream K) → stream.kernel ≡ None → IsSettled shown stream stream
settled_none shown stream none = record {
  alike = alike_none shown stream stream none none;
  followed = λ check f. f;
  same = same_line stream;
}

pub not_settled : {K : Type 0} (shown : K → Shown) (old new : Stream K) (before after : K) (why : StreamFault)
    → old.kernel ≡ Some before → new.kernel ≡ Some after → HasGrown (shown before) (shown after) []
    → (Follows old.follower (shown before).log → CannotForget (shown after).log why) → IsNotSettled shown old new why
not_settled {K} shown old new before after why was is grown cannot = record {
  alike = alike_by shown old new before after was is grown;
  fault = λ check f.
      let here : IsFollowed check old.follower (Some (shown before)) = subst (λ (k : Option K). IsFollowed check old.follower (option_map shown k)) was f in
      let there : CannotSettle (Some (shown after)) why = cannot here.1 in
      subst (λ (k : Option K). CannotSettle (option_map shown k) why) (sym is) there;
}

-- a further line, whatever it has come to
pub heard_further_all : {K : Type 0} (shown : K → Shown) (setting : Setting) (old new : Stream K) (before after : K) (line : List ℕ) (r : Result Heard StreamFault)
    → old.kernel ≡ Some before → new.kernel ≡ Some after → line ≡ old.line.items → IfOk r (ComesFurther (further_line_of old.number line) (shown before) (shown after))
    → OnOk r (Follows old.follower (shown before).log → Follows new.follower (shown after).log) → OnOk r (is_some new.follower ≡ is_some old.follower) → IsSameLine old new
    → IfOk r (IsHeard shown setting old new)
heard_further_all shown setting old new before after line (Ok what) was is e comes follows same lines =
    heard_further shown setting old new before after what was is
    (subst (λ (l : List ℕ). ComesFurther (further_line_of old.number l) (shown before) (shown after) what) e comes) follows same lines
heard_further_all shown setting old new before after line (Err why) was is e comes follows same lines = tt

pub not_heard_further_all : {K : Type 0} (shown : K → Shown) (setting : Setting) (old new : Stream K) (before after : K) (line : List ℕ) (r : Result Heard StreamFault)
    → old.kernel ≡ Some before → new.kernel ≡ Some after → line ≡ old.line.items → OnErr r (HasGrown (shown before) (shown after) [])
    → IfErr r (λ why. Follows old.follower (shown before).log → StopsFurther (further_line_of old.number line) (shown after) why)
    → IfErr r (IsNotHeard shown setting old new)
not_heard_further_all shown setting old new before after line (Ok what) was is e grown stops = tt
not_heard_further_all shown setting old new before after line (Err why) was is e grown stops =
    not_heard_further shown setting old new before after why was is grown
    (λ f. subst (λ (l : List ℕ). StopsFurther (further_line_of old.number l) (shown after) why) e (stops f))

-- whether what was kept is forgotten, by what the kernel and its checker did
pub settled_all : {K : Type 0} (shown : K → Shown) (old new : Stream K) (before after : K) (r : Result (Unit {0}) StreamFault)
    → old.kernel ≡ Some before → new.kernel ≡ Some after → Kept (shown after) → OnOk r (Forgets (shown before) (shown after))
    → OnOk r (Follows old.follower (shown before).log → Follows new.follower (shown after).log) → OnOk r (is_some new.follower ≡ is_some old.follower) → IsSameLine old new
    → OnOk r (IsSettled shown old new)
settled_all shown old new before after (Ok u) was is sound forgets follows same line =
    settled_by shown old new before after was is (grown_settled (shown before) (shown after) sound forgets) follows same line
settled_all shown old new before after (Err why) was is sound forgets follows same line = tt

pub not_settled_all : {K : Type 0} (shown : K → Shown) (old new : Stream K) (before after : K) (r : Result (Unit {0}) StreamFault)
    → old.kernel ≡ Some before → new.kernel ≡ Some after → Kept (shown after) → OnErr r (shown after ≡ shown before)
    → IfErr r (λ why. Follows old.follower (shown before).log → CannotForget (shown after).log why) → IfErr r (IsNotSettled shown old new)
not_settled_all shown old new before after (Ok u) was is sound unchanged fault = tt
not_settled_all shown old new before after (Err why) was is sound unchanged fault =
    not_settled shown old new before after why was is (grown_same (shown before) (shown after) sound unchanged) fault
