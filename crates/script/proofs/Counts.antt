-- Counts that are kept for each process.
use Rattle.std.proofs.Common.{◌≡◌, ℕ, ◌+◌, ◌-◌, ◌<◌, ◌≤◌, List, ◌∷◌, Some, Bool, true, false, cond, eqb, length, get_or, set, take, drop, refl, ap, ◌∙◌, sym, arith, length-take, subst}
use Rattle.std.proofs.lemmas.Bool.{eqb-true, eq-eqb, ne_eqb, lt-ltb, le-ltb}
use Rattle.std.proofs.lemmas.List.{get_or-set_same, get_or-set_other}
use Rattle.std.proofs.lemmas.List.Sums.{count_by_more_yes, count_by_more_no, count_by-le-length}
use Rattle.script.proofs.Drops.{next_of}
use Rattle.script.specs.Schedules.{first_without, lines_for, times}
use Rattle.script.specs.declared.read.Line.{Line}

one_more_at : (lines : List Line) (i : ℕ) (x : Line) (p v : ℕ) (counts : List ℕ) → i < length lines → x ≡ get_or lines i x → x.pid < length counts → v ≡ get_or counts x.pid 0
    → get_or counts p 0 ≡ lines_for p (take i lines) → (t : Bool) → eqb x.pid p ≡ t → get_or (set counts x.pid (v + 1)) p 0 ≡ lines_for p (take (i + 1) lines)
one_more_at lines i x p v counts below is room value same true e =
    let at : x.pid ≡ p = eqb-true x.pid p e in
    let yes : eqb (get_or lines i x).pid p ≡ true = ap (λ (y : Line). eqb y.pid p) (sym is) ∙ e in
    let more = count_by_more_yes (λ (line : Line). eqb line.pid p) lines i x below yes in
    let put : get_or (set counts x.pid (v + 1)) x.pid 0 ≡ v + 1 = get_or-set_same counts x.pid (v + 1) 0 room in
    let moved : get_or (set counts x.pid (v + 1)) p 0 ≡ v + 1 = ap (λ (q : ℕ). get_or (set counts x.pid (v + 1)) q 0) (sym at) ∙ put in
    let here : v ≡ get_or counts p 0 = value ∙ ap (λ (q : ℕ). get_or counts q 0) at in
    moved ∙ ap (λ (n : ℕ). n + 1) (here ∙ same) ∙ sym more
one_more_at lines i x p v counts below is room value same false e =
    let other : eqb (get_or lines i x).pid p ≡ false = ap (λ (y : Line). eqb y.pid p) (sym is) ∙ e in
    let more = count_by_more_no (λ (line : Line). eqb line.pid p) lines i x below other in
    get_or-set_other counts x.pid p (v + 1) 0 (λ (at : p ≡ x.pid). cc (eq-eqb x.pid p (sym at), e)) ∙ same ∙ sym more

pub one_more : (lines : List Line) (i : ℕ) (x : Line) (p v : ℕ) (counts : List ℕ) → i < length lines → x ≡ get_or lines i x → x.pid < length counts → v ≡ get_or counts x.pid 0
    → get_or counts p 0 ≡ lines_for p (take i lines) → get_or (set counts x.pid (v + 1)) p 0 ≡ lines_for p (take (i + 1) lines)
one_more lines i x p v counts below is room value same = one_more_at lines i x p v counts below is room value same (eqb x.pid p) refl

pub not_counted : (lines : List Line) (i : ℕ) (x : Line) (p : ℕ) → i < length lines → x ≡ get_or lines i x → p < x.pid → lines_for p (take (i + 1) lines) ≡ lines_for p (take i lines)
not_counted lines i x p below is less =
    let apart : eqb x.pid p ≡ false = ne_eqb x.pid p (λ (at : x.pid ≡ p). omega arith) in
    count_by_more_no (λ (line : Line). eqb line.pid p) lines i x below (ap (λ (y : Line). eqb y.pid p) (sym is) ∙ apart)

pub lines_for-le : (lines : List Line) (i p : ℕ) → lines_for p (take i lines) ≤ i
lines_for-le lines i p = omega (arith, count_by-le-length (λ (line : Line). eqb line.pid p) (take i lines), length-take {A = Line} i lines)

one_less_at : (pid p v n : ℕ) (before counts : List ℕ) → pid < length counts → v ≡ get_or counts pid 0 → 0 < v → get_or counts p 0 + times p before ≡ n
    → (t : Bool) → eqb pid p ≡ t → get_or (set counts pid (v - 1)) p 0 + cond t (times p before + 1) (times p before) ≡ n
one_less_at pid p v n before counts room value some same true e =
    let at : pid ≡ p = eqb-true pid p e in
    let put : get_or (set counts pid (v - 1)) pid 0 ≡ v - 1 = get_or-set_same counts pid (v - 1) 0 room in
    let moved : get_or (set counts pid (v - 1)) p 0 ≡ v - 1 = ap (λ (q : ℕ). get_or (set counts pid (v - 1)) q 0) (sym at) ∙ put in
    let here : v ≡ get_or counts p 0 = value ∙ ap (λ (q : ℕ). get_or counts q 0) at in
    omega arith
one_less_at pid p v n before counts room value some same false e =
    let kept = get_or-set_other counts pid p (v - 1) 0 (λ (at : p ≡ pid). cc (eq-eqb pid p (sym at), e)) in
    omega arith

pub one_less : (pid p v n : ℕ) (before counts : List ℕ) → pid < length counts → v ≡ get_or counts pid 0 → 0 < v → get_or counts p 0 + times p before ≡ n
    → get_or (set counts pid (v - 1)) p 0 + times p (pid ∷ before) ≡ n
one_less pid p v n before counts room value some same = one_less_at pid p v n before counts room value some same (eqb pid p) refl

pub goes_on : (lines : List Line) (pid v : ℕ) (before rest : List ℕ) → 0 < v → v + times pid before ≡ lines_for pid lines
    → first_without lines before (pid ∷ rest) ≡ first_without lines (pid ∷ before) rest
goes_on lines pid v before rest some same =
    ap (λ (t : Bool). cond t (first_without lines (pid ∷ before) rest) (Some pid)) (lt-ltb (times pid before) (lines_for pid lines) (omega arith))

pub stops : (lines : List Line) (pid v : ℕ) (before rest : List ℕ) → v ≡ 0 → v + times pid before ≡ lines_for pid lines
    → first_without lines before (pid ∷ rest) ≡ Some pid
stops lines pid v before rest none same =
    ap (λ (t : Bool). cond t (first_without lines (pid ∷ before) rest) (Some pid)) (le-ltb (times pid before) (lines_for pid lines) (omega arith))

pub one_more_here : (lines : List Line) (i : ℕ) (x : Line) (place p v : ℕ) (counts : List ℕ) → i < length lines → x ≡ get_or lines i x → place ≡ x.pid → place < length counts → v ≡ get_or counts place 0
    → get_or counts p 0 ≡ lines_for p (take i lines) → get_or (set counts place (v + 1)) p 0 ≡ lines_for p (take (i + 1) lines)
one_more_here lines i x place p v counts below is at room value same =
    ap (λ (q : ℕ). get_or (set counts q (v + 1)) p 0) at
    ∙ one_more lines i x p v counts below is (subst (λ (q : ℕ). q < length counts) at room) (value ∙ ap (λ (q : ℕ). get_or counts q 0) at) same

pub not_counted_here : (lines : List Line) (i : ℕ) (x : Line) (place p : ℕ) → i < length lines → x ≡ get_or lines i x → place ≡ x.pid → p < place → lines_for p (take (i + 1) lines) ≡ lines_for p (take i lines)
not_counted_here lines i x place p below is at less = not_counted lines i x p below is (subst (λ (q : ℕ). p < q) at less)

pub goes_on_at : (lines : List Line) (pids before : List ℕ) (i pid v : ℕ) → i < length pids → pid ≡ get_or pids i pid → 0 < v → v + times pid before ≡ lines_for pid lines
    → first_without lines before (drop i pids) ≡ first_without lines (pid ∷ before) (drop (i + 1) pids)
goes_on_at lines pids before i pid v below is some same =
    ap (first_without lines before) (next_of pids i pid below is) ∙ goes_on lines pid v before (drop (i + 1) pids) some same

pub stops_at : (lines : List Line) (pids before : List ℕ) (i pid v : ℕ) → i < length pids → pid ≡ get_or pids i pid → v ≡ 0 → v + times pid before ≡ lines_for pid lines
    → first_without lines before (drop i pids) ≡ Some pid
stops_at lines pids before i pid v below is none same =
    ap (first_without lines before) (next_of pids i pid below is) ∙ stops lines pid v before (drop (i + 1) pids) none same
