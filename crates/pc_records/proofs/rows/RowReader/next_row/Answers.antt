-- A read that found a record gives the first of those left, and one that found none shows that none was left.
use Rattle.csv.specs.Records.{fields_of}
use Rattle.pc_records.proofs.ReaderFacts.{read-found, read-going, read-none, true-from_not}
use Rattle.pc_records.proofs.rows.RowReader.next_row.Goals as goal

pub invariant_of-self-2 : goal.invariant_of-self-2
invariant_of-self-2 c more =
    let found = true-from_not c.in-Ok.found more in
    let going = c.self.invariant c.if-self.false in
    let old = c.self.inside.reader in
    let new = c.read_byte_record.new.self in
    let fields = fields_of c.read_byte_record.new.row in
    let reads = rw (c.in-Ok.is, found) at c.read_byte_record.ensures.reads going.untrimmed going.ready in
    let first = rw c.in-Ok.is at c.read_byte_record.ensures.ready going.untrimmed in
    let flexible = rw c.in-Ok.is at c.read_byte_record.ensures.flexible in
    read-going old new fields going reads first flexible

pub returns-clause-found : goal.returns-clause-found
returns-clause-found c found =
    let going = c.self.invariant c.if-self.false in
    let old = c.self.inside.reader in
    let new = c.read_byte_record.new.self in
    let fields = fields_of c.read_byte_record.new.row in
    let reads = rw (c.in-Ok.is, found) at c.read_byte_record.ensures.reads going.untrimmed going.ready in
    rw (← c.self.view_is, c.if-self.false, found) (read-found old new fields going reads).gives

pub returns-clause-end : goal.returns-clause-end
returns-clause-end c none =
    let going = c.self.invariant c.if-self.false in
    let old = c.self.inside.reader in
    let new = c.read_byte_record.new.self in
    let fields = fields_of c.read_byte_record.new.row in
    let reads = rw (c.in-Ok.is, none) at c.read_byte_record.ensures.reads going.untrimmed going.ready in
    rw (← c.self.view_is, c.if-self.false) (read-none old new fields going reads)
