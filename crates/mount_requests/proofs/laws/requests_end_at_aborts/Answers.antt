use Rattle.mount_requests.proofs.Ending.{allocate, copy, create, exchange, find, link, list, list_anew, look, look_up, make_directory, make_link, make_node, move_name, open_file, read, read_link, remove, seek, set, write}
use Rattle.mount_requests.proofs.laws.requests_end_at_aborts.Goals as goal

pub returns : goal.returns
returns c = record {
  look = look;
  look_up = look_up;
  find = find;
  read_link = read_link;
  set = set;
  make_directory = make_directory;
  make_link = make_link;
  make_node = make_node;
  link = link;
  remove = remove;
  exchange = exchange;
  move = move_name;
  open_file = open_file;
  create = create;
  read = read;
  write = write;
  seek = seek;
  allocate = allocate;
  copy = copy;
  list = list;
  list_anew = list_anew;
}
