-- Entries that pass for two roots: nothing that they run tells either, and what they come to is alike.
use Rattle.std.proofs.Common.{◌≡◌, ◌≢◌, ◌⊎◌, ℕ, List, [], ◌∷◌, ◌++◌, Result, Ok, Err, IfOk, inl, inr, refl, sym, ap, subst, ◌∙◌, append_assoc, append-nil}
use Rattle.std.specs.List.{AllByRecursion}
use Rattle.std.proofs.lemmas.Bool.{cases_eq}
use Rattle.model.specs.State.{Kernel}
use Rattle.model.specs.Plan.{Errno}
use Rattle.model.specs.Calls.{Answer, Stated}
use Rattle.model.specs.Steps.{Item, Run}
use Rattle.model.specs.Entries.{Op, Reply, Entry, Executed}
use Rattle.model.specs.Moments.{Setup, Status, gone, idle, live, doomed, Moment, status, next, after, after_from, at_start, start, run_by, calls_of}
use Rattle.model.specs.Legal.{items, serial, serial_from}
use Rattle.model.proofs.Laws.{all-append, append-all}
use Rattle.renaming_laws.specs.Renaming.{swap, renamed}
use Rattle.renaming_laws.specs.Laws.{IsStatOfRoot, TellsNot, TellsRoot, ChoosesNot}
use Rattle.renaming_laws.specs.Histories.{AlikeStatus, both_gone, both_idle, both_live, both_doomed, AllAlike}
use Rattle.renaming_laws.proofs.Laws.{root_is_free, root_is_free_in_histories, root_is_never_chosen, stat_tells_the_root, stats_tell_the_root}
use Rattle.model.specs.Suits.{suits}
use Rattle.model.specs.Passing.{Passes}
use Rattle.replay.specs.Faults.{commits_from}
use Rattle.replay.proofs.Prefixes.{passes_before, run_same, run_split, serial_append}
use Rattle.replay.proofs.Running.{items_append, run_append}

-- the lists of two statuses are the same
abbrev pub Same : List Executed → List Executed → Type 0
Same calls others = others ≡ calls

-- the number that an answer tells, if it does
abbrev number_told : Result Answer Errno → ℕ
number_told (Ok (Stated s)) = s.num
number_told (Ok _) = 0
number_told (Err e) = 0

-- What runs for two roots tells neither.
module _ (a b : ℕ) (apart : a ≢ b) where
  neither : (its : List Item) → AllByRecursion (λ it. TellsNot a it.answer ⊎ TellsRoot a it.call it.answer) its → AllByRecursion (λ it. IsStatOfRoot it.call → IfOk it.answer (λ _. TellsRoot b it.call it.answer)) its → AllByRecursion (λ it. TellsNot a it.answer) its
  neither [] h g = tt
  neither (it ∷ its) h g = (
    elim h.0 [
      | inl quiet ↦ quiet
      | inr tells ↦
          let told : TellsRoot b it.call it.answer = subst (λ r. IfOk r (λ _. TellsRoot b it.call it.answer)) tells.tells (g.0 tells.is_stat) in
          absurd (apart (ap number_told (sym tells.tells ∙ told.tells)))
    ],
    neither its h.1 g.1,
  )

  pub untold : (setup : Setup) (its : List Item) (k l : Kernel) → Run (start a setup) its k → Run (start b setup) its l → AllByRecursion (λ it. TellsNot a it.answer) its
  untold setup its k l r q = neither its (stat_tells_the_root a setup its k r) (stats_tell_the_root b setup its l q)

same_runs : (s t : Status) → AlikeStatus Same s t → (op : Op) (reply : Reply) (chosen : List ℕ) → run_by t op reply chosen ≡ run_by s op reply chosen
same_runs s t both_gone op reply chosen = refl
same_runs s t both_idle op reply chosen = refl
same_runs s t (both_live flags age calls others h) op reply chosen = ap (λ cs. run_by (live flags age cs) op reply chosen) h
same_runs s t (both_doomed cause other flags age) op reply chosen = refl

same_suits : (s t : Status) → AlikeStatus Same s t → (op : Op) (reply : Reply) → suits t op reply ≡ suits s op reply
same_suits s t both_gone op reply = refl
same_suits s t both_idle op reply = refl
same_suits s t (both_live flags age calls others h) op reply = refl
same_suits s t (both_doomed cause other flags age) op reply = refl

same_commits : (s t : Status) → AlikeStatus Same s t → (op : Op) (reply : Reply) → commits_from t op reply ≡ commits_from s op reply
same_commits s t both_gone op reply = refl
same_commits s t both_idle op reply = refl
same_commits s t (both_live flags age calls others h) op reply = ap (λ cs. commits_from (live flags age cs) op reply) h
same_commits s t (both_doomed cause other flags age) op reply = refl

same_calls : (s t : Status) → AlikeStatus Same s t → calls_of t ≡ calls_of s
same_calls s t both_gone = refl
same_calls s t both_idle = refl
same_calls s t (both_live flags age calls others h) = h
same_calls s t (both_doomed cause other flags age) = refl

pub same_itself : (s : Status) → AlikeStatus Same s s
same_itself gone = both_gone
same_itself idle = both_idle
same_itself (live flags age calls) = both_live flags age calls calls refl
same_itself (doomed cause flags age) = both_doomed cause cause flags age

-- the statuses at the end
alike_at_end : (m l : Moment) (es : List Entry) → AllAlike Same m l es es → (q : ℕ) → AlikeStatus Same (status (after_from m es) q) (status (after_from l es) q)
alike_at_end m l [] h q = h q
alike_at_end m l (e ∷ es) h q = alike_at_end (next m e) (next l e) es h.1 q

-- What entries come to for two roots is alike.
pub record AreAlike (a b : ℕ) (setup : Setup) (es : List Entry) : Type 0 where
  pub serial : serial b setup es ≡ serial a setup es
  pub statuses : (q : ℕ) → AlikeStatus Same (status (after a setup es) q) (status (after b setup es) q)
  pub phases : (q : ℕ) → AlikeStatus Same ((after a setup es).phase q) ((after b setup es).phase q)

module _ (setup : Setup) where
  module _ (a b : ℕ) (apart : a ≢ b) where
    -- where one list runs from both
    alike_of : (es : List Entry) (k l : Kernel) → Run (start a setup) (serial a setup es) k → Run (start b setup) (serial a setup es) l → AreAlike a b setup es
    alike_of es k l r q =
        let h = root_is_free_in_histories a b setup es k (untold a b apart setup (serial a setup es) k l r q) (root_is_never_chosen b setup (serial a setup es) l q) r in
        record { serial = h.serial; statuses = alike_at_end (at_start a setup) (at_start b setup) es h.statuses; phases = h.phases }

    one_more_alike : (es : List Entry) (e : Entry) → AreAlike a b setup es → Passes a setup (es ++ e ∷ []) → Passes b setup (es ++ e ∷ []) → AreAlike a b setup (es ++ e ∷ [])
    one_more_alike es e h r q =
        let m : Moment = after a setup es in
        let l : Moment = after b setup es in
        let its : List Item = items e.pid (run_by (status m e.pid) e.op e.reply e.chosen) ++ [] in
        let same : serial b setup (es ++ e ∷ []) ≡ serial a setup (es ++ e ∷ []) =
        serial_append (at_start b setup) es (e ∷ []) ∙ ap (λ is. is ++ serial_from l (e ∷ [])) h.serial
        ∙ ap (λ cs. serial a setup es ++ (items e.pid cs ++ [])) (same_runs (status m e.pid) (status l e.pid) (h.statuses e.pid) e.op e.reply e.chosen)
        ∙ sym (serial_append (at_start a setup) es (e ∷ [])) in
        alike_of (es ++ e ∷ []) r.exists.committed q.exists.committed r.exists.run (subst (λ is. Run (start b setup) is q.exists.committed) same q.exists.run)

    more_alike : (es fs : List Entry) → AreAlike a b setup es → Passes a setup (es ++ fs) → Passes b setup (es ++ fs) → AreAlike a b setup (es ++ fs)
    more_alike es [] h r q = subst (AreAlike a b setup) (sym (append-nil es)) h
    more_alike es (f ∷ fs) h r q =
        let one : es ++ f ∷ fs ≡ (es ++ f ∷ []) ++ fs = sym (append_assoc es (f ∷ []) fs) in
        let r' : Passes a setup ((es ++ f ∷ []) ++ fs) = subst (Passes a setup) one r in
        let q' : Passes b setup ((es ++ f ∷ []) ++ fs) = subst (Passes b setup) one q in
        subst (AreAlike a b setup) (sym one)
        (more_alike (es ++ f ∷ []) fs (one_more_alike es f h (passes_before a setup (es ++ f ∷ []) fs r') (passes_before b setup (es ++ f ∷ []) fs q')) r' q')

  alike_itself : (a : ℕ) (es : List Entry) → AreAlike a a setup es
  alike_itself a es = record { serial = refl; statuses = λ q. same_itself (status (after a setup es) q); phases = λ q. same_itself ((after a setup es).phase q) }

  -- what passes for two roots is alike for them
  pub all_alike : (a b : ℕ) (es : List Entry) → Passes a setup es → Passes b setup es → AreAlike a b setup es
  all_alike a b es r q = elim (cases_eq a b) [
    | inl same ↦ subst (λ x. AreAlike a x setup es) same (alike_itself a es)
    | inr apart ↦ more_alike a b apart [] es (alike_of a b apart [] (start a setup) (start b setup) refl refl) r q
  ]

  module _ (a b : ℕ) (es : List Entry) (r : Passes a setup es) (q : Passes b setup es) where
    pub runs_alike : (e : Entry) → run_by (status (after b setup es) e.pid) e.op e.reply e.chosen ≡ run_by (status (after a setup es) e.pid) e.op e.reply e.chosen
    runs_alike e = same_runs _ _ ((all_alike a b es r q).statuses e.pid) e.op e.reply e.chosen

    pub suits_alike : (e : Entry) → suits (status (after b setup es) e.pid) e.op e.reply ≡ suits (status (after a setup es) e.pid) e.op e.reply
    suits_alike e = same_suits _ _ ((all_alike a b es r q).statuses e.pid) e.op e.reply

    pub commits_alike : (e : Entry) → commits_from (status (after b setup es) e.pid) e.op e.reply ≡ commits_from (status (after a setup es) e.pid) e.op e.reply
    commits_alike e = same_commits _ _ ((all_alike a b es r q).statuses e.pid) e.op e.reply

    pub calls_alike : (pid : ℕ) → calls_of ((after b setup es).phase pid) ≡ calls_of ((after a setup es).phase pid)
    calls_alike pid = same_calls _ _ ((all_alike a b es r q).phases pid)

    -- Calls of a process that run for one root run for the other too, where the others but the last do,
    -- and the last tells not the one and chooses not the other.
    pub last_runs : a ≢ b → (pid : ℕ) (first : List Executed) (c : Executed) (l mid : Kernel) → Run r.exists.committed (items pid (first ++ c ∷ [])) l → Run q.exists.committed (items pid first) mid
        → (TellsRoot a c.call c.answer → ⊥) → AllByRecursion (λ n. n ≢ b) c.chosen → (later : Kernel) × Run q.exists.committed (items pid (first ++ c ∷ [])) later
    last_runs apart pid first c l mid run begun tells_not chooses_not =
        let before : List Item = serial a setup es in
        let last : List Item = items pid (c ∷ []) in
        let all : before ++ items pid (first ++ c ∷ []) ≡ (before ++ items pid first) ++ last = ap (λ is. before ++ is) (items_append pid first (c ∷ [])) ∙ sym (append_assoc before (items pid first) last) in
        let run_a : Run (start a setup) ((before ++ items pid first) ++ last) l = subst (λ is. Run (start a setup) is l) all (run_append _ _ l before (items pid (first ++ c ∷ [])) r.exists.run run) in
        let parts = run_split (start a setup) (before ++ items pid first) last l run_a in
        let run_b : Run (start b setup) (before ++ items pid first) mid = run_append _ _ mid before (items pid first) (subst (λ is. Run (start b setup) is q.exists.committed) (all_alike a b es r q).serial q.exists.run) begun in
        let told = all-append (λ (it : Item). TellsNot a it.answer ⊎ TellsRoot a it.call it.answer) (before ++ items pid first) last (stat_tells_the_root a setup _ l run_a) in
        let last_told : TellsNot a c.answer = elim told.1.0 [ inl quiet ↦ quiet | inr tells ↦ absurd (tells_not tells) ] in
        let free = root_is_free a b setup ((before ++ items pid first) ++ last) l
        (append-all (λ (it : Item). TellsNot a it.answer) (before ++ items pid first) last (untold a b apart setup (before ++ items pid first) parts.mid mid parts.before run_b) (last_told, tt))
        (append-all (ChoosesNot b) (before ++ items pid first) last (root_is_never_chosen b setup (before ++ items pid first) mid run_b) (chooses_not, tt)) run_a in
        let whole : Run (start b setup) (serial b setup es ++ items pid (first ++ c ∷ [])) (renamed (swap a b) l) =
        subst (λ is. Run (start b setup) is (renamed (swap a b) l)) (sym all ∙ ap (λ is. is ++ items pid (first ++ c ∷ [])) (sym (all_alike a b es r q).serial)) free in
        let there = run_split (start b setup) (serial b setup es) (items pid (first ++ c ∷ [])) (renamed (swap a b) l) whole in
        (renamed (swap a b) l, subst (λ k. Run k (items pid (first ++ c ∷ [])) (renamed (swap a b) l)) {x = there.mid} {y = q.exists.committed} (run_same (start b setup) there.mid q.exists.committed (serial b setup es) there.before q.exists.run) there.behind)
