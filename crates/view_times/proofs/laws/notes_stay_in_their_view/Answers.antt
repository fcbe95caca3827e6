use Rattle.view_times.proofs.Apart.{notes_stay_in_their_view}
use Rattle.view_times.proofs.laws.notes_stay_in_their_view.Goals as goal

pub returns : goal.returns
returns c = notes_stay_in_their_view
