use Rattle.std.proofs.Common.{◌≡◌, ℕ, ◌+◌, List, [], ◌∷◌, ◌++◌, length, drop, sym, subst, arith, rules, length-drop}
use Rattle.commit_log.specs.File.{Continues, HasNone}
use Rattle.commit_log.specs.Frame.{frame_length}
use Rattle.commit_log.specs.Kept.{BeginsWith}
use Rattle.commit_log.proofs.Ready.{read_one, read_none}
use Rattle.commit_log.proofs.reader.Reader.next.Goals as goal

pub returns-in-None-clause-reads : goal.returns-in-None-clause-reads
returns-in-None-clause-reads g c clean before rest is_at =
    let reader = c.args.self.now in
    let file = g.D.Disk.seen reader.disk in
    let none : HasNone reader.key file reader.place = rw c.in-None.is at (c.in_ok-found.ensures.found clean) in
    let over = read_none reader.key reader.place file rest is_at.continues none in (
      over,
      record {
        begins = subst (λ (f : List ℕ). BeginsWith reader.key before reader.place f) (sym c.read_frame.ensures.same.seen) is_at.begins;
        continues = subst (λ (f : List ℕ). Continues reader.key f reader.place []) (sym c.read_frame.ensures.same.seen) (
            subst (λ (l : List (List ℕ)). Continues reader.key file reader.place l) over is_at.continues
            );
      },
    )

pub returns-in-Some-clause-reads : goal.returns-in-Some-clause-reads
returns-in-Some-clause-reads g c clean before rest is_at =
    let reader = c.args.self.now in
    let file = g.D.Disk.seen reader.disk in
    let bytes = c.read_frame.new.frame.items in
    let payload = drop 32 bytes in
    let has = rw c.in-Some.is at (c.in_ok-found.ensures.found clean) in
    let within = rw c.in-Some.is at c.in_ok-found.ensures.within in
    let one = read_one reader.key reader.place file before rest payload is_at.begins is_at.continues (_, has) in
    let told : c.len.result ≡ length bytes = search rules in
    let end : reader.place + frame_length payload ≡ reader.place + c.len.result = omega (arith, told, within.0, length-drop 32 bytes) in (
      one.0,
      one.1,
      record {
        begins = subst (λ (f : List ℕ). BeginsWith reader.key (before ++ payload ∷ []) (reader.place + c.len.result) f) (sym c.read_frame.ensures.same.seen) (
            subst (λ (p : ℕ). BeginsWith reader.key (before ++ payload ∷ []) p file) end one.2
            );
        continues = subst (λ (f : List ℕ). Continues reader.key f (reader.place + c.len.result) one.0) (sym c.read_frame.ensures.same.seen) (
            subst (λ (p : ℕ). Continues reader.key file p one.0) end one.3
            );
      },
    )
