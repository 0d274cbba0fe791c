-- An index may go to another thread.
use denote.RattleType.{RattleType}
use denote.Param.Send.{IsSend, sendable}
use Rattle.std.proofs.Crossing as std
use Rattle.std.specs.declared.cmp.PartialEq as eq
use Rattle.std.specs.declared.hash.Hash as hash
use Rattle.std.specs.declared.hash.Hasher as hasher
use Rattle.std.specs.declared.hash.BuildHasher as builder
use Rattle.std.specs.contracts.alloc.Global as heap
use Rattle.std.specs.contracts.impls.GlobalAllocator.TheImpl.{ghosts}
use Rattle.indexmap.specs.contracts.columns.Columns as Columns
use Rattle.indexmap.specs.contracts.index_table.IndexTable as IndexTable
use Rattle.indexmap.specs.contracts.index_table.Bucket as Bucket
use Rattle.indexmap.specs.contracts.index_table.group.Group as Group
use Rattle.indexmap.specs.contracts.map.IndexMap as IndexMap
use Rattle.name_index.specs.contracts.name_index.NameIndex as names
use Rattle.name_index.specs.contracts.key_index.KeyIndex as keys

columns_are_sent : (K V : RattleType) → IsSend K → IsSend V → IsSend (Columns.the_field K V heap.the_row ghosts).row
columns_are_sent K V k v = let a = std.Vec-send K k in let b = std.Vec-send V v in search sendable depth 20

table_is_sent : IsSend (IndexTable.the_field heap.the_row ghosts).row
table_is_sent =
    let a = std.Vec-send Group.the_row (search sendable depth 20) in
    let b = std.Vec-send Bucket.the_row (search sendable depth 20) in
    search sendable depth 20

module _ (K V S T : RattleType) (e : eq.Ghosts K.Denot) (h : hash.Ghosts K.Denot) (b : builder.Ghosts S.Denot T.Denot) (w : hasher.Ghosts T.Denot) where
  map_is_sent : IsSend K → IsSend V → IsSend S → IsSend (IndexMap.the_field K V S heap.the_row T e h b w ghosts).row
  map_is_sent k v s = let c = columns_are_sent K V k v in let t = table_is_sent in search sendable depth 20

pub names_are_sent : IsSend (names.the_field).row
names_are_sent = search (map_is_sent, std.crosses, sendable) depth 20

pub keys_are_sent : IsSend (keys.the_field).row
keys_are_sent = search (map_is_sent, std.crosses, sendable) depth 20
