use Rattle.std.proofs.Common.{◌≡◌, ℕ, ◌+◌, List, [], ◌∷◌, ◌++◌, take, drop, get_or, sym, ◌∙◌, ap}
use Rattle.std.proofs.lemmas.List.{take_all, take_more, drop_more, take-append-drop}
use Rattle.transcript.proofs.Laws.{CanPrint-after, Prints-none, Prints-then}
use Rattle.stream.proofs.Parting.{Stops-as, Stops-then, Takes-as, Takes-none, Takes-then}
use Rattle.stream.proofs.state.Stream.take_part.Goals as goal

pub loop-byte-init : goal.loop-byte-init
loop-byte-init g c = (c.requires.can, ([], Prints-none _ _ _, λ seen at. Takes-none _ _ seen _ at))

pub loop-byte-preserved : goal.loop-byte-preserved
loop-byte-preserved g c =
    let part = c.args.part.now in
    let i = c.loop-byte.byte-index in
    let so_far = c.loop-byte.invariant.1 in
    let more = c.in-Ok.ensures.answers in
    let b : ℕ = get_or part i 0 in
    let longer : take i part ++ b ∷ [] ≡ take (i + 1) part = sym (take_more part i 0 c.loop-byte-test.true) in (
      CanPrint-after more.1 c.loop-byte.invariant.0,
      (
        so_far.0 ++ more.0,
        Prints-then _ _ so_far.1 more.1,
        λ seen at.
            let first = so_far.2 seen at in
            Takes-as _ _ seen _ _ _ _ (Takes-then _ _ seen (take i part) (b ∷ []) so_far.0 more.0 _ _ first (more.2 first.after first.at)) longer,
      ),
    )

pub returns-clause-answers : goal.returns-clause-answers
returns-clause-answers g c =
    let part = c.args.part.now in
    let i = c.loop-byte.byte-index in
    let so_far = c.loop-byte.invariant.1 in
    (so_far.0, so_far.1, λ seen at. Takes-as _ _ seen _ _ _ _ (so_far.2 seen at) (take_all i part c.loop-byte-test.false))

pub returns-in-Err-clause-answers : goal.returns-in-Err-clause-answers
returns-in-Err-clause-answers g c =
    let part = c.args.part.now in
    let i = c.loop-byte.byte-index in
    let so_far = c.loop-byte.invariant.1 in
    let more = c.in-Err.ensures.answers in
    let b : ℕ = get_or part i 0 in
    let rest : List ℕ = drop (i + 1) part in
    let whole : take i part ++ (b ∷ [] ++ rest) ≡ part =
    ap (λ (xs : List ℕ). take i part ++ xs) (sym (drop_more part i 0 c.loop-byte-test.true)) ∙ take-append-drop i part in (
      so_far.0 ++ more.0,
      Prints-then _ _ so_far.1 more.1,
      λ seen at.
          let first = so_far.2 seen at in
          Stops-as _ _ seen _ _ _ _ _ (Stops-then _ _ seen (take i part) (b ∷ []) rest so_far.0 more.0 _ _ _ first (more.2 first.after first.at)) whole,
    )
