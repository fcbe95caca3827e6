-- What replies come to: an abort only where they tell of one.
use Rattle.std.proofs.Common.{◌≡◌, false, refl}
use Rattle.ids.specs.declared.reply.Answer.TheVariants as answer
use Rattle.ids.specs.declared.reply.Reply.{Reply}
use Rattle.ids.specs.declared.reply.Reply.TheVariants as reply
use Rattle.course.specs.Faults.{bytes_in, count_in, done_in, fd_in, names_in, place_in, stat_in}
use Rattle.mount_requests.specs.Aborts.{IsNoAbort, tells_abort}

pub done_no_abort : (r : Reply) → tells_abort r ≡ false → IsNoAbort (done_in r)
done_no_abort (reply.Answer answer.Done) other = tt
done_no_abort (reply.Answer (answer.Fd x)) other = refl
done_no_abort (reply.Answer (answer.Count x)) other = refl
done_no_abort (reply.Answer (answer.Place x)) other = refl
done_no_abort (reply.Answer (answer.Bytes x)) other = refl
done_no_abort (reply.Answer (answer.Pair x y)) other = refl
done_no_abort (reply.Answer (answer.Stat x)) other = refl
done_no_abort (reply.Answer (answer.Names x)) other = refl
done_no_abort (reply.Answer (answer.Child x)) other = refl
done_no_abort (reply.Errno x) other = refl
done_no_abort reply.Begun other = refl
done_no_abort reply.Committed other = refl
done_no_abort (reply.GivenUp x) other = refl
done_no_abort (reply.Busy x) other = refl
done_no_abort reply.InTransaction other = refl
done_no_abort reply.NotInTransaction other = refl
done_no_abort reply.HistoryFull other = refl
done_no_abort reply.NoMemory other = refl
done_no_abort reply.NoProcess other = refl
done_no_abort (reply.Aborted why again) other = absurd cc

pub fd_no_abort : (r : Reply) → tells_abort r ≡ false → IsNoAbort (fd_in r)
fd_no_abort (reply.Answer answer.Done) other = refl
fd_no_abort (reply.Answer (answer.Fd x)) other = tt
fd_no_abort (reply.Answer (answer.Count x)) other = refl
fd_no_abort (reply.Answer (answer.Place x)) other = refl
fd_no_abort (reply.Answer (answer.Bytes x)) other = refl
fd_no_abort (reply.Answer (answer.Pair x y)) other = refl
fd_no_abort (reply.Answer (answer.Stat x)) other = refl
fd_no_abort (reply.Answer (answer.Names x)) other = refl
fd_no_abort (reply.Answer (answer.Child x)) other = refl
fd_no_abort (reply.Errno x) other = refl
fd_no_abort reply.Begun other = refl
fd_no_abort reply.Committed other = refl
fd_no_abort (reply.GivenUp x) other = refl
fd_no_abort (reply.Busy x) other = refl
fd_no_abort reply.InTransaction other = refl
fd_no_abort reply.NotInTransaction other = refl
fd_no_abort reply.HistoryFull other = refl
fd_no_abort reply.NoMemory other = refl
fd_no_abort reply.NoProcess other = refl
fd_no_abort (reply.Aborted why again) other = absurd cc

pub stat_no_abort : (r : Reply) → tells_abort r ≡ false → IsNoAbort (stat_in r)
stat_no_abort (reply.Answer answer.Done) other = refl
stat_no_abort (reply.Answer (answer.Fd x)) other = refl
stat_no_abort (reply.Answer (answer.Count x)) other = refl
stat_no_abort (reply.Answer (answer.Place x)) other = refl
stat_no_abort (reply.Answer (answer.Bytes x)) other = refl
stat_no_abort (reply.Answer (answer.Pair x y)) other = refl
stat_no_abort (reply.Answer (answer.Stat x)) other = tt
stat_no_abort (reply.Answer (answer.Names x)) other = refl
stat_no_abort (reply.Answer (answer.Child x)) other = refl
stat_no_abort (reply.Errno x) other = refl
stat_no_abort reply.Begun other = refl
stat_no_abort reply.Committed other = refl
stat_no_abort (reply.GivenUp x) other = refl
stat_no_abort (reply.Busy x) other = refl
stat_no_abort reply.InTransaction other = refl
stat_no_abort reply.NotInTransaction other = refl
stat_no_abort reply.HistoryFull other = refl
stat_no_abort reply.NoMemory other = refl
stat_no_abort reply.NoProcess other = refl
stat_no_abort (reply.Aborted why again) other = absurd cc

pub count_no_abort : (r : Reply) → tells_abort r ≡ false → IsNoAbort (count_in r)
count_no_abort (reply.Answer answer.Done) other = refl
count_no_abort (reply.Answer (answer.Fd x)) other = refl
count_no_abort (reply.Answer (answer.Count x)) other = tt
count_no_abort (reply.Answer (answer.Place x)) other = refl
count_no_abort (reply.Answer (answer.Bytes x)) other = refl
count_no_abort (reply.Answer (answer.Pair x y)) other = refl
count_no_abort (reply.Answer (answer.Stat x)) other = refl
count_no_abort (reply.Answer (answer.Names x)) other = refl
count_no_abort (reply.Answer (answer.Child x)) other = refl
count_no_abort (reply.Errno x) other = refl
count_no_abort reply.Begun other = refl
count_no_abort reply.Committed other = refl
count_no_abort (reply.GivenUp x) other = refl
count_no_abort (reply.Busy x) other = refl
count_no_abort reply.InTransaction other = refl
count_no_abort reply.NotInTransaction other = refl
count_no_abort reply.HistoryFull other = refl
count_no_abort reply.NoMemory other = refl
count_no_abort reply.NoProcess other = refl
count_no_abort (reply.Aborted why again) other = absurd cc

pub bytes_no_abort : (r : Reply) → tells_abort r ≡ false → IsNoAbort (bytes_in r)
bytes_no_abort (reply.Answer answer.Done) other = refl
bytes_no_abort (reply.Answer (answer.Fd x)) other = refl
bytes_no_abort (reply.Answer (answer.Count x)) other = refl
bytes_no_abort (reply.Answer (answer.Place x)) other = refl
bytes_no_abort (reply.Answer (answer.Bytes x)) other = tt
bytes_no_abort (reply.Answer (answer.Pair x y)) other = refl
bytes_no_abort (reply.Answer (answer.Stat x)) other = refl
bytes_no_abort (reply.Answer (answer.Names x)) other = refl
bytes_no_abort (reply.Answer (answer.Child x)) other = refl
bytes_no_abort (reply.Errno x) other = refl
bytes_no_abort reply.Begun other = refl
bytes_no_abort reply.Committed other = refl
bytes_no_abort (reply.GivenUp x) other = refl
bytes_no_abort (reply.Busy x) other = refl
bytes_no_abort reply.InTransaction other = refl
bytes_no_abort reply.NotInTransaction other = refl
bytes_no_abort reply.HistoryFull other = refl
bytes_no_abort reply.NoMemory other = refl
bytes_no_abort reply.NoProcess other = refl
bytes_no_abort (reply.Aborted why again) other = absurd cc

pub names_no_abort : (r : Reply) → tells_abort r ≡ false → IsNoAbort (names_in r)
names_no_abort (reply.Answer answer.Done) other = refl
names_no_abort (reply.Answer (answer.Fd x)) other = refl
names_no_abort (reply.Answer (answer.Count x)) other = refl
names_no_abort (reply.Answer (answer.Place x)) other = refl
names_no_abort (reply.Answer (answer.Bytes x)) other = refl
names_no_abort (reply.Answer (answer.Pair x y)) other = refl
names_no_abort (reply.Answer (answer.Stat x)) other = refl
names_no_abort (reply.Answer (answer.Names x)) other = tt
names_no_abort (reply.Answer (answer.Child x)) other = refl
names_no_abort (reply.Errno x) other = refl
names_no_abort reply.Begun other = refl
names_no_abort reply.Committed other = refl
names_no_abort (reply.GivenUp x) other = refl
names_no_abort (reply.Busy x) other = refl
names_no_abort reply.InTransaction other = refl
names_no_abort reply.NotInTransaction other = refl
names_no_abort reply.HistoryFull other = refl
names_no_abort reply.NoMemory other = refl
names_no_abort reply.NoProcess other = refl
names_no_abort (reply.Aborted why again) other = absurd cc

pub place_no_abort : (r : Reply) → tells_abort r ≡ false → IsNoAbort (place_in r)
place_no_abort (reply.Answer answer.Done) other = refl
place_no_abort (reply.Answer (answer.Fd x)) other = refl
place_no_abort (reply.Answer (answer.Count x)) other = refl
place_no_abort (reply.Answer (answer.Place x)) other = tt
place_no_abort (reply.Answer (answer.Bytes x)) other = refl
place_no_abort (reply.Answer (answer.Pair x y)) other = refl
place_no_abort (reply.Answer (answer.Stat x)) other = refl
place_no_abort (reply.Answer (answer.Names x)) other = refl
place_no_abort (reply.Answer (answer.Child x)) other = refl
place_no_abort (reply.Errno x) other = refl
place_no_abort reply.Begun other = refl
place_no_abort reply.Committed other = refl
place_no_abort (reply.GivenUp x) other = refl
place_no_abort (reply.Busy x) other = refl
place_no_abort reply.InTransaction other = refl
place_no_abort reply.NotInTransaction other = refl
place_no_abort reply.HistoryFull other = refl
place_no_abort reply.NoMemory other = refl
place_no_abort reply.NoProcess other = refl
place_no_abort (reply.Aborted why again) other = absurd cc
