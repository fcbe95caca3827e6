use Rattle.mount_requests.specs.Seen.{seen}
use Rattle.mounted.proofs.Releases.{is_released}
use Rattle.mounted.proofs.releasing.count_down.Goals as goal

pub returns : goal.returns
returns c = is_released (seen c.args.tables.now) c.args.tables.now.files.room c.args.handle c.release-file.ensures.each c.release-file.ensures.handles c.release-file.ensures.next
