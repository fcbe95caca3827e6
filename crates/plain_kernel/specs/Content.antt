-- What the checker stores of an inode, as the model's inode.
use Rattle.model.specs.State.{Inode, File, Directory, Pipe, Fixed}
use Rattle.plain_kernel.specs.declared.inode.Content.{Content}
use Rattle.plain_kernel.specs.declared.inode.Content.TheVariants.{File as Bytes_of, Directory as Names_of}
use Rattle.plain_kernel.specs.declared.inode.Content.TheVariants.{Pipe as Waiting}
use Rattle.plain_kernel.specs.declared.inode.Content.TheVariants.{Fixed as Unchanging}

abbrev pub inode_of : Content → Inode
inode_of (Bytes_of stored) = File stored.bytes
inode_of (Names_of names) = Directory names
inode_of (Waiting bytes) = Pipe bytes
inode_of (Unchanging fixed) = Fixed fixed
