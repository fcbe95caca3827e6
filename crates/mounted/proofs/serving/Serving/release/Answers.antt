use Rattle.mount_requests.specs.Found.{file_at}
use Rattle.mount_requests.specs.Seen.{seen}
use Rattle.mounted.proofs.Releases.{is_closed, is_not_closed}
use Rattle.mounted.proofs.Staying.{sound_into, sound_released, stand_same}
use Rattle.mounted.proofs.serving.Serving.release.Goals as goal

pub returns-in-Some-clause-releases : goal.returns-in-Some-clause-releases
returns-in-Some-clause-releases g c =
    is_closed (seen c.args.self.now.tables) (seen c.close_file.new.self.tables) c.args.handle c.in-Some.file _ _ c.last_open.ensures c.in-Some.is c.close_file.ensures.closes

pub returns-in-None-clause-releases : goal.returns-in-None-clause-releases
returns-in-None-clause-releases g c =
    is_not_closed (seen c.args.self.now.tables) (seen c.count_down.new.tables) c.args.handle _ c.last_open.ensures c.in-None.is c.count_down.ensures

pub returns-in-None-clause-sound : goal.returns-in-None-clause-sound
returns-in-None-clause-sound g c =
    sound_into c.count_down.ensures (sound_released (seen c.args.self.now.tables) c.args.handle (file_at (seen c.args.self.now.tables) c.args.handle) (stand_same _))
