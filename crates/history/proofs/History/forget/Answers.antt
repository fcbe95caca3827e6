use Rattle.std.proofs.Common.{◌≡◌, List, ℕ, [], ◌∷◌, ◌++◌, length, sym, ◌∙◌, ap, append-nil, ◌+◌, sum, arith, refl}
use Rattle.ids.specs.declared.entry.Entry.{Entry}
use Rattle.history.specs.Log.{Log, kept, all_forgotten}
use Rattle.history.specs.Past.{counts_in, entries_in}
use Rattle.std.proofs.lemmas.Bool.{false≢true}
use Rattle.std.proofs.lemmas.List.{length-append}
use Rattle.history.specs.declared.past.Past.{Past}
use Rattle.ids.specs.Bounds.{bounds_of}
use Rattle.history.proofs.Kept.{count_is, kept_are}
use Rattle.history.proofs.History.forget.Goals as goal

pub returns-clause-yes : goal.returns-clause-yes
returns-clause-yes c done =
    let past = c.self.inside.past in
    let es : List Entry = c.self.inside.entries.items in
    let log : List Entry → List ℕ → Log = λ entries forgotten. record { entries = entries; priorities = c.self.inside.priorities.items; limit = c.self.inside.limits.entries; forgotten = forgotten; bounds = bounds_of c.self.inside.limits } in
    let entries : entries_in c.add.new.self ++ c.clear.new.self.items ≡ entries_in past ++ es =
    ap (λ x. x ++ c.clear.new.self.items) c.add.ensures.entries ∙ ap (λ x. (entries_in past ++ es) ++ x) c.clear.ensures.items ∙ append-nil (entries_in past ++ es) in
    let counts : counts_in c.add.new.self ≡ counts_in past ++ length (kept (log (entries_in past ++ es) (counts_in past))) ∷ [] =
    c.add.ensures.counts ∙ ap (λ x. counts_in past ++ length x ∷ []) (sym (kept_are past es)) in
    ap (λ x. log x (counts_in c.add.new.self)) entries ∙ ap (log (entries_in past ++ es)) counts ∙ ap all_forgotten c.self.view_is

-- all entries are those that were forgotten and those that are kept
total : (past : Past) (es : List Entry) (forgotten len : ℕ) → forgotten ≡ sum (counts_in past) → len ≡ length es → forgotten + len ≡ length (entries_in past ++ es)
total past es forgotten len is long = (let before = is ∙ count_is past in let all = length-append (entries_in past) es in omega (arith, before, all, long))

pub returns-then-len-self-clause-exactly : goal.returns-then-len-self-clause-exactly
returns-then-len-self-clause-exactly c =
    let all : c.self.inside.forgotten + c.len.result ≡ length c.args.self.now.entries =
    total c.self.inside.past c.self.inside.entries.items c.self.inside.forgotten c.len.result c.self.invariant.2 (c.len.ensures ∙ c.self.inside.entries.ok.0) ∙ ap (λ log. length log.entries) c.self.view_is in
    let over = c.if-len-self.true in (λ is. absurd (false≢true is), λ low. absurd (omega (arith, all, over, low, c.self.invariant.3)))

pub returns-clause-exactly : goal.returns-clause-exactly
returns-clause-exactly c =
    let all : c.self.inside.forgotten + c.len.result ≡ length c.args.self.now.entries =
    total c.self.inside.past c.self.inside.entries.items c.self.inside.forgotten c.len.result c.self.invariant.2 (c.len.ensures ∙ c.self.inside.entries.ok.0) ∙ ap (λ log. length log.entries) c.self.view_is in
    let within = c.if-len-self.false in (λ is. omega (arith, all, within, c.self.invariant.3), λ low. refl)
