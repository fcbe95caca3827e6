use Rattle.std.proofs.Common.{rules}
use Rattle.transcript.proofs.Printing.{Prints-as}
use Rattle.transcript.proofs.operation.put_call.Goals as goal

pub returns-in-Open : goal.returns-in-Open
returns-in-Open g c = Prints-as c.put_open.ensures (search rules)

pub returns-in-Close : goal.returns-in-Close
returns-in-Close g c = Prints-as c.put_number.ensures (search rules)

pub returns-in-Read : goal.returns-in-Read
returns-in-Read g c = Prints-as c.put_numbers.ensures (search rules)

pub returns-in-Pread : goal.returns-in-Pread
returns-in-Pread g c = Prints-as c.put_pread.ensures (search rules)

pub returns-in-Write : goal.returns-in-Write
returns-in-Write g c = Prints-as c.put_bytes.ensures (search rules)

pub returns-in-Pwrite : goal.returns-in-Pwrite
returns-in-Pwrite g c = Prints-as c.put_pwrite.ensures (search rules)

pub returns-in-Lseek : goal.returns-in-Lseek
returns-in-Lseek g c = Prints-as c.put_lseek.ensures (search rules)

pub returns-in-Ftruncate : goal.returns-in-Ftruncate
returns-in-Ftruncate g c = Prints-as c.put_numbers-in-Ftruncate.ensures (search rules)

pub returns-in-Truncate : goal.returns-in-Truncate
returns-in-Truncate g c = Prints-as c.put_truncate.ensures (search rules)

pub returns-in-Fallocate : goal.returns-in-Fallocate
returns-in-Fallocate g c = Prints-as c.put_fallocate.ensures (search rules)

pub returns-in-Stat : goal.returns-in-Stat
returns-in-Stat g c = Prints-as c.put_path.ensures (search rules)

pub returns-in-Fstat : goal.returns-in-Fstat
returns-in-Fstat g c = Prints-as c.put_number-in-Fstat.ensures (search rules)

pub returns-in-Link : goal.returns-in-Link
returns-in-Link g c = Prints-as c.put_paths.ensures (search rules)

pub returns-in-Unlink : goal.returns-in-Unlink
returns-in-Unlink g c = Prints-as c.put_path-in-Unlink.ensures (search rules)

pub returns-in-Rename : goal.returns-in-Rename
returns-in-Rename g c = Prints-as c.put_paths-in-Rename.ensures (search rules)

pub returns-in-Exchange : goal.returns-in-Exchange
returns-in-Exchange g c = Prints-as c.put_paths-in-Exchange.ensures (search rules)

pub returns-in-Mkdir : goal.returns-in-Mkdir
returns-in-Mkdir g c = Prints-as c.put_path-in-Mkdir.ensures (search rules)

pub returns-in-Rmdir : goal.returns-in-Rmdir
returns-in-Rmdir g c = Prints-as c.put_path-in-Rmdir.ensures (search rules)

pub returns-in-List : goal.returns-in-List
returns-in-List g c = Prints-as c.put_path-in-List.ensures (search rules)

pub returns-in-Symlink : goal.returns-in-Symlink
returns-in-Symlink g c = Prints-as c.put_paths-in-Symlink.ensures (search rules)

pub returns-in-Readlink : goal.returns-in-Readlink
returns-in-Readlink g c = Prints-as c.put_path-in-Readlink.ensures (search rules)

pub returns-in-Lstat : goal.returns-in-Lstat
returns-in-Lstat g c = Prints-as c.put_path-in-Lstat.ensures (search rules)

pub returns-in-Mknod : goal.returns-in-Mknod
returns-in-Mknod g c = Prints-as c.put_mknod.ensures (search rules)

pub returns-in-Chmod : goal.returns-in-Chmod
returns-in-Chmod g c = Prints-as c.put_chmod.ensures (search rules)

pub returns-in-Chown : goal.returns-in-Chown
returns-in-Chown g c = Prints-as c.put_chown.ensures (search rules)

pub returns-in-Fchmod : goal.returns-in-Fchmod
returns-in-Fchmod g c = Prints-as c.put_fchmod.ensures (search rules)

pub returns-in-Fchown : goal.returns-in-Fchown
returns-in-Fchown g c = Prints-as c.put_fchown.ensures (search rules)

pub returns-in-Dup : goal.returns-in-Dup
returns-in-Dup g c = Prints-as c.put_number-in-Dup.ensures (search rules)

pub returns-in-Dup2 : goal.returns-in-Dup2
returns-in-Dup2 g c = Prints-as c.put_numbers-in-Dup2.ensures (search rules)

pub returns-in-Pipe : goal.returns-in-Pipe
returns-in-Pipe g c = Prints-as c.put_word.ensures (search rules)

pub returns-in-Fork : goal.returns-in-Fork
returns-in-Fork g c = Prints-as c.put_word-in-Fork.ensures (search rules)

pub returns-in-Exit : goal.returns-in-Exit
returns-in-Exit g c = Prints-as c.put_word-in-Exit.ensures (search rules)
