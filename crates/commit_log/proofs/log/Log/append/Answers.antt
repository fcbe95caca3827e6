use Rattle.std.proofs.Common.{◌≡◌, ℕ, ◌+◌, ◌^◌, ◌<◌, ◌++◌, [], ◌∷◌, length, subst, ◌∙◌, ap, arith, rules}
use Rattle.sqlite_disk.specs.Disk.{Holds}
use Rattle.commit_log.specs.Frame.{frame_length}
use Rattle.commit_log.specs.Kept.{BeginsWith}
use Rattle.commit_log.specs.File.{IsBlankFrom}
use Rattle.commit_log.proofs.Appending.{begins_more, blank_behind}
use Rattle.commit_log.proofs.Crash.{leaves_first, kept_through_write}
use Rattle.commit_log.proofs.log.Log.append.Goals as goal

pub returns-in_err-frame-clause-crash : goal.returns-in_err-frame-clause-crash
returns-in_err-frame-clause-crash g c kept appended stands =
    let log = c.args.self.now in
    leaves_first (g.D.Disk.may_leave log.disk) log.key kept log.kept (appended ++ c.args.payload.now ∷ []) stands.durable

pub returns-then-length-place-clause-crash : goal.returns-then-length-place-clause-crash
returns-then-length-place-clause-crash g c kept appended stands =
    let log = c.args.self.now in
    leaves_first (g.D.Disk.may_leave log.disk) log.key kept log.kept (appended ++ c.args.payload.now ∷ []) stands.durable

pub returns-in-Err-clause-crash : goal.returns-in-Err-clause-crash
returns-in-Err-clause-crash g c kept appended stands =
    let log = c.args.self.now in
    leaves_first (g.D.Disk.may_leave c.write_at.new.self) log.key kept log.kept (appended ++ c.args.payload.now ∷ []) (
    kept_through_write (g.D.Disk.may_leave log.disk) (g.D.Disk.may_leave c.write_at.new.self) log.key kept log.kept log.end _ stands.order stands.durable c.in-Err.ensures.crash
    )

pub returns-clause-crash : goal.returns-clause-crash
returns-clause-crash g c kept appended stands =
    let log = c.args.self.now in
    leaves_first (g.D.Disk.may_leave c.write_at.new.self) log.key kept log.kept (appended ++ c.args.payload.now ∷ []) (
    kept_through_write (g.D.Disk.may_leave log.disk) (g.D.Disk.may_leave c.write_at.new.self) log.key kept log.kept log.end _ stands.order stands.durable c.in_default-write_at.ensures.crash
    )

pub returns-clause-appended : goal.returns-clause-appended
returns-clause-appended g c kept appended stands =
    let log = c.args.self.now in
    let payload = c.args.payload.now in
    let old = g.D.Disk.seen log.disk in
    let new = g.D.Disk.seen c.write_at.new.self in
    let deref : c.deref.result.now ≡ c.in_ok-frame.frame.items = c.deref.ensures.value in
    let long : length c.deref.result.now ≡ frame_length payload = ap length deref ∙ c.in_ok-frame.ensures.length in
    let told : c.len-length.result ≡ length c.in_ok-frame.frame.items = search rules in
    let behind : log.end + length c.deref.result.now ≡ log.end + c.len-length.result = omega (arith, told, ap length deref) in
    let record_end : log.end + frame_length payload ≡ log.end + c.len-length.result = omega (arith, told, c.in_ok-frame.ensures.length) in
    let whole : log.end + frame_length payload < 2 ^ 64 = omega (arith, told, c.in_ok-frame.ensures.length) in
    record {
      ready = stands.ready;
      order = omega (arith, stands.order);
      fits = omega (arith, record_end, whole);
      shown = subst (λ (p : ℕ). BeginsWith log.key (kept ++ (appended ++ payload ∷ [])) p new) record_end (
          begins_more log.key old new kept appended log.end log.kept _ payload _ stands.shown c.in_default-write_at.ensures.others (c.in_default-write_at.ensures.written (omega (arith, long))) (deref ∙ c.in_ok-frame.ensures.bytes) (omega (arith, stands.order, stands.fits)) (omega (arith, whole))
          );
      blank = subst (λ (p : ℕ). IsBlankFrom new p) behind (blank_behind old new log.end _ stands.blank c.in_default-write_at.ensures.others);
      durable = kept_through_write (g.D.Disk.may_leave log.disk) (g.D.Disk.may_leave c.write_at.new.self) log.key kept log.kept log.end _ stands.order stands.durable c.in_default-write_at.ensures.crash;
    }

pub returns-clause-says : goal.returns-clause-says
returns-clause-says g c kept appended stands =
    let log = c.args.self.now in
    let deref : c.deref.result.now ≡ c.in_ok-frame.frame.items = c.deref.ensures.value in
    let long : length c.deref.result.now ≡ frame_length c.args.payload.now = ap length deref ∙ c.in_ok-frame.ensures.length in
    let told : c.len-length.result ≡ length c.in_ok-frame.frame.items = search rules in
    record {
      bytes = subst (Holds (g.D.Disk.seen c.write_at.new.self) log.end) (deref ∙ c.in_ok-frame.ensures.bytes) (c.in_default-write_at.ensures.written (omega (arith, long)));
      kept_fits = omega (arith, stands.order, stands.fits);
      length_fits = omega (arith, told, c.in_ok-frame.ensures.length);
    }
