use Rattle.std.proofs.Common.{Some, ap}
use Rattle.walk.proofs.Laws.{goes, via}
use Rattle.model.specs.Plans.{status}
use Rattle.path_calls.proofs.Binds.{link_by, link_of, link_with}
use Rattle.path_calls.proofs.stats.status_of.Goals as goal

pub returns-in_ok-links-in-File : goal.returns-in_ok-links-in-File
returns-in_ok-links-in-File g c = via (ap (λ kind. status (c.args.num, Some kind)) c.in-File.is) (goes _ c.in_ok-size-in-File.ensures (goes _ c.in_ok-links-in-File.ensures c.stated.ensures))

pub returns-in-Dir : goal.returns-in-Dir
returns-in-Dir g c = via (ap (λ kind. status (c.args.num, Some kind)) c.in-Dir.is) c.stated-in-Dir.ensures

pub returns-in-Pipe : goal.returns-in-Pipe
returns-in-Pipe g c = via (ap (λ kind. status (c.args.num, Some kind)) c.in-Pipe.is) c.stated-in-Pipe.ensures

pub returns-in_ok-links-in-Link : goal.returns-in_ok-links-in-Link
returns-in_ok-links-in-Link g c = via (ap (λ kind. status (c.args.num, Some kind)) c.in-Link.is) (via (link_by c.args.num) (goes (link_of c.args.num) c.in_ok-size-in-Link.ensures (goes (link_with c.args.num c.in_ok-size-in-Link.size) c.in_ok-links-in-Link.ensures c.stated-in-Link.ensures)))

pub returns-in-Fifo : goal.returns-in-Fifo
returns-in-Fifo g c = via (ap (λ kind. status (c.args.num, Some kind)) c.in-Fifo.is) c.status_of_name.ensures

pub returns-in-Socket : goal.returns-in-Socket
returns-in-Socket g c = via (ap (λ kind. status (c.args.num, Some kind)) c.in-Socket.is) c.status_of_name-in-Socket.ensures
