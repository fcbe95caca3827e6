use Rattle.std.proofs.Common.{◌≡◌, ◌<◌, ◌≤◌, ◌+◌, ℕ, List, [], length, arith, refl, sym, subst, ap, ◌∙◌}
use Rattle.std.proofs.lemmas.List.{get_or_read}
use Rattle.model.specs.State.{Kernel}
use Rattle.model.specs.Changes.{Edit, Put_bytes, applied, news, tidy}
use Rattle.call_laws.specs.Fits.{Fits}
use Rattle.notes.specs.Steps.{IsFirst, new_in}
use Rattle.notes.proofs.Laws.{ok_so}
use Rattle.shadow.proofs.edits.UnusedNumbers.{none_goes, same_bytes_put, same_pipe}
use Rattle.shadow.proofs.stable.Stable.perform_first.Goals as goal

pub returns-in-PutBytes-clause-state : goal.returns-in-PutBytes-clause-state
returns-in-PutBytes-clause-state c =
    let chosen : List ℕ = c.args.chosen.now in let k : Kernel = c.args.self.now.state in
    let e : Edit = Put_bytes c.in-PutBytes.file c.in-PutBytes.offset c.in-PutBytes.bytes
    c.in-PutBytes.length_before in
    ok_so c.write-written.result (λ h. h c.in-PutBytes.length_before
    ∙ ap (λ bytes. applied []
    (Put_bytes c.in-PutBytes.file c.in-PutBytes.offset bytes c.in-PutBytes.length_before) k)
    c.as_slice.ensures
    ∙ same_bytes_put chosen k c.in-PutBytes.file c.in-PutBytes.offset c.in-PutBytes.bytes
    c.in-PutBytes.length_before
    ∙ none_goes chosen k e c.state_is_tidied.ensures
    (subst (Fits chosen k) c.in-PutBytes.is c.requires.fits) refl
    ∙ ap (λ (e : Edit). tidy (applied chosen e k)) (sym c.in-PutBytes.is)) c.write-written.ensures.state

pub returns-in-MakePipe-clause-state : goal.returns-in-MakePipe-clause-state
returns-in-MakePipe-clause-state c =
    let chosen : List ℕ = c.args.chosen.now in let k : Kernel = c.args.self.now.state in
    let count = subst (λ (e : Edit). news e ≤ length chosen) c.in-MakePipe.is c.requires.count in
    let low : 2 < length chosen = omega (arith, count) in
    let first = subst IsFirst c.in-MakePipe.is c.requires.first in
    let place : c.in-MakePipe.index ≡ 0 = first.0 in
    let pipe : c.index-chosen-0.result ≡ new_in chosen 0 =
    get_or_read chosen 0 c.index-chosen-0.result (omega (arith, low))
    c.index-chosen-0.is 0 in
    let reader : c.index-chosen-1.result ≡ new_in chosen 1 =
    get_or_read chosen 1 c.index-chosen-1.result (omega (arith, low)) c.index-chosen-1.is 0 in
    let writer : c.index-chosen-2.result ≡ new_in chosen 2 =
    get_or_read chosen 2 c.index-chosen-2.result low c.index-chosen-2.is 0 in
    ok_so c.make_pipe.result (λ h. h
    ∙ ap (λ (k : Kernel). tidy k)
    (same_pipe chosen c.in-MakePipe.index c.in-MakePipe.process c.in-MakePipe.reader
    c.in-MakePipe.writer c.index-chosen-0.result c.index-chosen-1.result
    c.index-chosen-2.result (pipe ∙ sym (ap (new_in chosen) place))
    (reader ∙ sym (ap (λ i. new_in chosen (i + 1)) place))
    (writer ∙ sym (ap (λ i. new_in chosen (i + 2)) place)) k)
    ∙ ap (λ (e : Edit). tidy (applied chosen e k)) (sym c.in-MakePipe.is)) c.make_pipe.ensures.state
