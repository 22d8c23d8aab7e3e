-- The host of an upload, computed.
use Rattle.definition_tests.proofs.Prelude.{refl, acked, acked_from, acknowledges, all_packets, all_settled, ending, flight_at, flight_in, out, phase_of, progress, progress_within, ticks, reply_in, reply_to, packet_at, packet_count, part_count, read_count, write_count}
use Rattle.definition_tests.specs.Hosts.{HostRows, ReplyRows}

pub hosts : HostRows
unfolding acked acked_from acknowledges all_packets all_settled ending flight_at flight_in out phase_of progress progress_within ticks reply_in reply_to packet_at packet_count part_count read_count write_count
hosts = record {
  all = refl;
  firsts = refl;
  many = refl;
  no_start = refl;
  settled = refl;
  first_lacks = refl;
  other_lacks = refl;
  phases = refl;
  before_write = refl;
  after_write = refl;
  reads = refl;
  starts = refl;
  four = refl;
  four_reads = refl;
  both = refl;
  acknowledged = refl;
  not_good = refl;
  again = refl;
  joins = refl;
  ticking = refl;
  among = refl;
  two_ticks = refl;
  counted = refl;
  ends = refl;
  ends_late = refl;
  ends_early = refl;
  no_end = refl;
  last_event = refl;
  not_the_last = refl;
  gives_up = refl;
  first_end = refl;
  on_tick = refl;
  on_answer = refl;
  on_end = refl;
  none_sent = refl;
}

pub replies : ReplyRows
unfolding reply_in reply_to packet_at packet_count part_count read_count write_count
replies = record {
  chunks = refl;
  wrote = refl;
  found = refl;
  commanded = refl;
  short = refl;
  its_write = refl;
  other_memory = refl;
  other_place = refl;
  no_write = refl;
  its_define = refl;
  other_define = refl;
  no_command = refl;
  its_read = refl;
  refused_read = refl;
  fewer_bytes = refl;
  read_elsewhere = refl;
  read_of_other = refl;
  statuses = refl;
  differs = refl;
  same = refl;
  readings = refl;
  of_reads = refl;
  of_starts = refl;
  of_other = refl;
  past_the_start = refl;
  nobody = refl;
  on_a_tick = refl;
  good = refl;
  ends = refl;
  finished = refl;
}
