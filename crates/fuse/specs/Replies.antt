-- Replies. Each begins with a header of 16 bytes: its length, its error or 0, and the number of the
-- request (unique). The body of each is as Linux lays it out; a field that no value tells is 0.
use Rattle.std.specs.Prelude.{ℕ, ◌+◌, ◌-◌, ◌<◌, ◌^◌, ◌%◌, List, [], ◌∷◌, ◌++◌, length}
use Rattle.fuse.specs.declared.reply.Attr.{Attr}
use Rattle.fuse.specs.declared.reply.Entry.{Entry}
use Rattle.fuse.specs.declared.reply.Init.{Init}
use Rattle.fuse.specs.declared.reply.Opened.{Opened}
use Rattle.fuse.specs.declared.reply.Reply.{Reply}
use Rattle.fuse.specs.declared.reply.Reply.TheVariants as reply
use Rattle.fuse.specs.declared.reply.StatFs.{StatFs}
use Rattle.fuse.specs.Errors.{number_of}
use Rattle.fuse.specs.Numbers.{u16s, u32_bytes, u32s, u64_bytes, u64s}

-- inode, size, blocks, the seconds of three times; their nanoseconds, mode, links, uid, gid,
-- device, size of a block and flags
unfoldable pub attr_bytes : Attr → List ℕ
attr_bytes attr =
    u64s (attr.inode ∷ attr.size ∷ attr.blocks ∷ attr.accessed.seconds ∷ attr.modified.seconds
    ∷ attr.changed.seconds ∷ [])
    ++ u32s (attr.accessed.nanoseconds ∷ attr.modified.nanoseconds ∷ attr.changed.nanoseconds
    ∷ attr.mode ∷ attr.links ∷ attr.uid ∷ attr.gid ∷ 0 ∷ attr.blksize ∷ 0 ∷ [])

-- node, generation, how long the name and the attributes are valid in seconds and nanoseconds, and
-- the attributes
unfoldable pub entry_bytes : Entry → List ℕ
entry_bytes entry =
    u64s (entry.node ∷ entry.generation ∷ 0 ∷ 0 ∷ []) ++ u32s (0 ∷ 0 ∷ [])
    ++ attr_bytes entry.attr

-- how long the attributes are valid, and the attributes
unfoldable pub attr_reply_bytes : Attr → List ℕ
attr_reply_bytes attr = u64s (0 ∷ []) ++ u32s (0 ∷ 0 ∷ []) ++ attr_bytes attr

-- handle, flags and padding
unfoldable pub opened_bytes : Opened → List ℕ
opened_bytes opened = u64s (opened.handle ∷ []) ++ u32s (opened.flags ∷ 0 ∷ [])

-- blocks, nodes, sizes and padding
unfoldable pub statfs_bytes : StatFs → List ℕ
statfs_bytes s =
    u64s (s.blocks ∷ s.free_blocks ∷ s.available_blocks ∷ s.nodes ∷ s.free_nodes ∷ [])
    ++ u32s (s.block_size ∷ s.name_length ∷ s.block_size ∷ 0 ∷ 0 ∷ 0 ∷ 0 ∷ 0 ∷ 0 ∷ 0 ∷ [])

-- version 7.31, and what is agreed
unfoldable pub init_bytes : Init → List ℕ
init_bytes init =
    u32s (7 ∷ 31 ∷ init.max_readahead ∷ init.flags ∷ [])
    ++ u16s (init.max_background ∷ init.congestion_threshold ∷ [])
    ++ u32s (init.max_write ∷ init.time_granularity ∷ []) ++ u16s (init.max_pages ∷ 0 ∷ [])
    ++ u32s (0 ∷ 0 ∷ 0 ∷ 0 ∷ 0 ∷ 0 ∷ 0 ∷ 0 ∷ [])

-- what stands behind the header
abbrev pub body_of : Reply → List ℕ
body_of (reply.Error errno) = []
body_of reply.Empty = []
body_of (reply.Entry entry) = entry_bytes entry
body_of (reply.Attr attr) = attr_reply_bytes attr
body_of (reply.Opened opened) = opened_bytes opened
body_of (reply.Created entry opened) = entry_bytes entry ++ opened_bytes opened
body_of (reply.Written size) = u32s (size ∷ 0 ∷ [])
body_of (reply.Data bytes) = bytes
body_of (reply.Directory listing) = listing.bytes
body_of (reply.StatFs s) = statfs_bytes s
body_of (reply.Init init) = init_bytes init
body_of (reply.Lseek offset) = u64s (offset ∷ [])

-- A reply's length has to be below 2 ^ 32. It is, but where it has bytes of any number.
abbrev pub IsShort : Reply → Type 0
IsShort (reply.Data bytes) = length bytes + 16 < 2 ^ 32
IsShort (reply.Directory listing) = length listing.bytes + 16 < 2 ^ 32
IsShort _ = Unit {0}

-- the error below zero, as two's complement in 32 bits, or 0
abbrev pub error_of : Reply → ℕ
error_of (reply.Error errno) = (2 ^ 32 - number_of errno) % 2 ^ 32
error_of _ = 0

-- a header with this error and number, and a body
unfoldable pub message : ℕ → ℕ → List ℕ → List ℕ
message unique error body =
    u32_bytes (16 + length body) ++ u32_bytes error ++ u64_bytes unique ++ body

-- the bytes of a reply to the request of this number
abbrev pub reply_bytes : ℕ → Reply → List ℕ
reply_bytes unique r = message unique (error_of r) (body_of r)
