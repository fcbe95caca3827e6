use Rattle.std.proofs.Common.{◌≡◌, ◌-◌, length, drop, sym, ◌∙◌, ap, arith, rules, length-drop}
use Rattle.sqlite_disk.specs.Digest.{digest}
use Rattle.commit_log.specs.Frame.{number}
use Rattle.commit_log.proofs.Spelled.{spelled, same_number, says_digest, says_place, says_length}
use Rattle.commit_log.proofs.frame.kept_in.Goals as goal

pub returns-then-digest-digest_of-clause-none : goal.returns-then-digest-digest_of-clause-none
returns-then-digest-digest_of-clause-none c kept payload is =
    let found : c.digest_of.result ≡ digest c.args.key (drop 8 c.args.bytes.now) = search rules in
    c.if-digest-digest_of.true (same_number c.number_at-digest.result c.digest_of.result (omega arith) (omega arith)
    (c.number_at-digest.ensures ∙ says_digest c.args.key c.args.place kept payload c.args.bytes.now is ∙ ap number (sym found)))

pub returns-then-own_place-place-clause-none : goal.returns-then-own_place-place-clause-none
returns-then-own_place-place-clause-none c kept payload is =
    c.if-own_place-place.true (same_number c.number_at-own_place.result c.args.place (omega arith) (omega arith)
    (c.number_at-own_place.ensures ∙ says_place c.args.key c.args.place kept payload c.args.bytes.now is))

pub returns-then-length-bytes-clause-none : goal.returns-then-length-bytes-clause-none
returns-then-length-bytes-clause-none c kept payload is =
    c.if-length-bytes.true (same_number c.number_at-length.result (length c.args.bytes.now - 32) (omega arith) (omega arith)
    (c.number_at-length.ensures ∙ says_length c.args.key c.args.place kept payload c.args.bytes.now is))

pub returns-clause-good : goal.returns-clause-good
returns-clause-good c = (
  omega arith,
  spelled c.args.key c.args.place c.number_at.result c.number_at-digest.result c.number_at-own_place.result c.number_at-length.result c.args.bytes.now c.number_at-digest.ensures (search rules) c.number_at-own_place.ensures (search rules) c.number_at.ensures c.number_at-length.ensures (omega (arith, length-drop 32 c.args.bytes.now)),
)
