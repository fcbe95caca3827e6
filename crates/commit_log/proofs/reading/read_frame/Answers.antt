use Rattle.std.proofs.Common.{◌≡◌, ℕ, ◌+◌, List, length, drop, sym, subst, arith, rules}
use Rattle.std.specs.Prelude.{MatchOption}
use Rattle.commit_log.specs.File.{HasNone}
use Rattle.commit_log.specs.Frame.{HasFrame}
use Rattle.commit_log.proofs.Parts.{written_over}
use Rattle.commit_log.proofs.Found.{told_length, told_place, none_or_found}
use Rattle.commit_log.proofs.Spelled.{frame_within}
use Rattle.commit_log.proofs.reading.read_frame.Goals as goal

pub returns-then-saturating_sub-lt-HEAD-clause-found : goal.returns-then-saturating_sub-lt-HEAD-clause-found
returns-then-saturating_sub-lt-HEAD-clause-found g c clean payload has =
    omega (arith, c.requires.sized clean, frame_within c.args.key (g.D.Disk.seen c.args.disk.now) c.args.place has.0 payload has.1)

pub returns-then-number_at-place-clause-found : goal.returns-then-number_at-place-clause-found
returns-then-number_at-place-clause-found g c clean payload has =
    let file = g.D.Disk.seen c.args.disk.now in
    let long : length c.read_bytes.new.bytes ≡ 32 = search rules in
    omega (arith, c.if-number_at-place.true, told_place c.args.key file c.args.place c.number_at.result c.read_bytes.new.bytes payload (c.in_ok-read_bytes.ensures.read clean) long c.number_at.ensures (omega arith) (omega arith) has)

pub returns-then-told-rest-clause-found : goal.returns-then-told-rest-clause-found
returns-then-told-rest-clause-found g c clean payload has =
    let file = g.D.Disk.seen c.args.disk.now in
    let long : length c.read_bytes.new.bytes ≡ 32 = search rules in
    omega (arith, c.requires.sized (c.read_bytes.ensures.same.clean clean), frame_within c.args.key file c.args.place has.0 payload has.1, told_length c.args.key file c.args.place c.number_at-told.result c.read_bytes.new.bytes payload (c.in_ok-read_bytes.ensures.read clean) long c.number_at-told.ensures (omega arith) has)

pub returns-clause-found : goal.returns-clause-found
returns-clause-found g c clean =
    let file = g.D.Disk.seen c.args.disk.now in
    let before = c.read_whole.ensures.same.clean clean in
    let long : length c.read_bytes.new.bytes ≡ 32 = search rules in
    let size : length c.deref_mut.result.now ≡ 32 + c.number_at-told.result = search rules in
    let items = c.resize.new.self.items in
    let bytes = c.read_whole.new.frame in
    let over : length bytes ≡ length items = search rules in
    let all : c.resize.new.self.len ≡ length items = search rules in
    subst (λ (b : List ℕ). MatchOption c.in_ok-found.found (HasNone c.args.key file c.args.place) (λ kept. HasFrame c.args.key file c.args.place kept (drop 32 b))) (sym (written_over c.resize.new.self.len bytes items over all)) (
    none_or_found c.args.key file c.args.place (length c.deref_mut.result.now) (drop 32 bytes) c.in_ok-found.found (λ payload has.
    omega (arith, size, told_length c.args.key file c.args.place c.number_at-told.result c.read_bytes.new.bytes payload (c.in_ok-read_bytes.ensures.read before) long c.number_at-told.ensures (omega arith) has)) (
    rw c.read_bytes.ensures.same.seen at (c.in_ok-found.ensures.found clean)
    )
    )
